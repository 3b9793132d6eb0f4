-- What the answer for a constraint is. Assumes nothing.
use Rattle.std.specs.Prelude.{◌≡◌, List, ℕ, ◌+◌, ◌*◌, ◌<◌, ◌≤◌, ℤ, pos, ◌≤ℤ◌}
use Rattle.std.proofs.Math.IntN.{sub_ℕ}
use Rattle.density.specs.Top.{AnswerSet}
use Rattle.density.specs.Sheet.{Sound, claim}
use Rattle.limits.specs.Limits.{most_weight, most_constraints}
use Rattle.arrays.specs.At.{at}
use Rattle.arrays.specs.Arrays.{net_in, shares_in}
use Rattle.routes.specs.Marked.{members}

-- 01, 'The questions': top density and answer set of c, and "a sound sheet whose claim is the top density".
-- t is the density; the objects are marks, 0 for none
pub record Solved (n m c : ℕ) (ends weights takes objects shares : List ℕ) (t : ℤ) : Type 0 where
  pub answer : AnswerSet (net_in n m ends weights takes) c t (members objects)
  pub sound : Sound (net_in n m ends weights takes) c (shares_in shares)
  pub claims : claim (net_in n m ends weights takes) c (shares_in shares) ≡ t
  pub outside : (v : ℕ) → n ≤ v → at objects v ≡ 0
  -- from -30, what both ends weigh at most, to 7,680, what all constraints do
  pub low : sub_ℕ 0 (most_weight + most_weight) ≤ℤ t
  pub high : t ≤ℤ pos (most_weight * most_constraints)
  pub shares_small : (i : ℕ) → i < 2 * m → at shares i ≤ most_weight
