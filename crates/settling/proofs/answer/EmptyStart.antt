-- The empty start, and that settling keeps its rooms open. Assumes nothing.
use mathlib.Core.Path.{◌≡◌, ◌∙◌}
use mathlib.Core.List.{List}
use Prim.Native.Nat.{ℕ, ◌+◌, ◌*◌}
use native.Mathlib.Omega.{arith}
use lib.ListN.{replicate}
use Rattle.density.specs.Sum.{counted}
use Rattle.density.proofs.Sums.{sum_zero, counted_le}
use lib.Dec.{eqb}
use Rattle.limits.specs.Limits.{most_objects, most_constraints, most_ends}
use Rattle.arrays.specs.At.{at}
use Rattle.routes.specs.State.{State, state, load}
use Rattle.settling.specs.Settle.{Settled}
use Rattle.arrays.specs.Arrays.{Fair}
use Rattle.settling.specs.Answer.{Spread}
use Rattle.arrays.proofs.Stores.{at_zeros}

-- ---- nothing is given

load_none : (m : ℕ) (ends : List ℕ) (v : ℕ) → load m ends (replicate most_ends 0) v ≡ 0
unfolding load
load_none m ends v = sum_zero (2 * m) (λ i. counted (eqb (at ends i) v) (at (replicate most_ends 0) i))
    (λ i b. omega (arith, counted_le (eqb (at ends i) v) (at (replicate most_ends 0) i), at_zeros most_ends i))

abbrev pub empty : List ℕ → State
empty room = state (replicate most_objects 0) (replicate most_constraints 0) (replicate most_ends 0) room

pub opened : {n m : ℕ} {ends weights takes : List ℕ} → Fair n m ends weights takes → Spread m ends weights takes (empty weights)
opened {m = m} {ends = ends} {weights = weights} fair = record {
  kept = record {
    bounded = λ i b. omega (arith, load_none m ends (at ends i), fair.light_objects (at ends i) (fair.named i b));
    fits = λ e b. omega (arith, at_zeros most_ends (2 * e), at_zeros most_ends (2 * e + 1));
    closed = λ e b h. absurd (omega (arith, at_zeros most_constraints e));
    full = λ v h. absurd (omega (arith, at_zeros most_objects v));
    goes_on = λ k b h. absurd (omega (arith, at_zeros most_objects (at ends k)));
    least = λ S starts goes v h. absurd (omega (arith, at_zeros most_objects v));
  };
  open_rooms = λ v. omega (arith, load_none m ends v);
}

-- ---- settling keeps the rooms open

pub spread_settled : {m : ℕ} {ends weights takes : List ℕ} {s t : State} → Spread m ends weights takes s → Settled m ends takes s t
    → Spread m ends weights takes t
spread_settled spread settled = record {
  kept = settled.kept;
  open_rooms = λ v. settled.onward.loads v ∙ spread.open_rooms v;
}
