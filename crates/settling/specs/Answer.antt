-- What the functions of `answer` ask, and what they come to. Assumes nothing.
use Rattle.std.specs.Prelude.{◌≡◌, List, ℕ, ◌+◌, ◌*◌, ◌<◌, ◌≤◌, ℤ, pos, ◌≤ℤ◌}
use Rattle.std.proofs.Math.IntN.{sub_ℕ}
use Rattle.density.specs.Sum.{sum}
use Rattle.density.specs.Sheet.{claim}
use Rattle.limits.specs.Limits.{most_weight, most_constraints}
use Rattle.arrays.specs.declared.NetArrays.{NetArrays}
use Rattle.arrays.specs.At.{at}
use Rattle.arrays.specs.Arrays.{shares_in}
use Rattle.arrays.specs.Held.{net_held}
use Rattle.routes.specs.State.{State, load, both_shares}
use Rattle.settling.specs.Settle.{Kept}

-- the state of a net is kept, and every room is open: what any number of answers can start from
pub record Spread (m : ℕ) (ends weights takes : List ℕ) (s : State) : Type 0 where
  pub kept : Kept m ends takes s
  pub open_rooms : (v : ℕ) → load m ends s.shares v + at s.room v ≡ at weights v

-- no constraint has given more than it weighs
pub record EachWithin (m : ℕ) (takes shares : List ℕ) : Type 0 where
  pub fits : (e : ℕ) → e < m → both_shares shares e ≤ at takes e

-- r is the weight left over all constraints
pub record Remainder (m : ℕ) (takes shares : List ℕ) (r : ℕ) : Type 0 where
  pub is : r + sum m (λ e. both_shares shares e) ≡ sum m (λ e. at takes e)
  pub small : r ≤ most_weight * m

-- t is what the shares claim for c, within the bounds of a density (`Solved`)
pub record Claimed (c : ℕ) (net : NetArrays) (shares : List ℕ) (t : ℤ) : Type 0 where
  pub is : claim (net_held net) c (shares_in shares) ≡ t
  pub low : sub_ℕ 0 (most_weight + most_weight) ≤ℤ t
  pub high : t ≤ℤ pos (most_weight * most_constraints)
