-- Densities of an accepted drawing fit 16 bits. Assumes nothing.
use mathlib.Core.Path.{◌≡◌, sym}
use Prim.Native.Nat.{ℕ, suc, ◌+◌, ◌*◌, ◌≤◌, ◌<◌}
use native.Mathlib.Omega.{arith}
use lib.IntN.{ℤ, pos, negsuc, sub_ℕ}
use Rattle.std.specs.Prelude.{List, ◌<ℤ◌}
use Rattle.std.proofs.lemmas.Int.{ints}
use lib.ListN.{length}
use Rattle.density.specs.Sum.{counted}
use Rattle.density.specs.Net.{Set, holds}
use Rattle.density.specs.Density.{taken_by, free, density}
use Rattle.density.specs.Top.{Top}
use Rattle.density.proofs.Integers.{sub_up, sub_down}
use Rattle.density.proofs.Sums.{counted_le, sum_most}
use Rattle.limits.specs.Limits.{most_objects, most_constraints, most_weight}
use Rattle.drawing.specs.Entry.{Drawing}
use Rattle.drawing.specs.Weight.{constraint_weight}
use Rattle.routes.specs.declared.search.Marks.{Marks}
use Rattle.settling.specs.Solved.{Solved}
use Rattle.net.specs.Weighed.{weight_of, weighed, Within}
use Rattle.counter.specs.declared.block.Block.{Block}

-- a density that 16 bits hold
pub record Short (t : ℤ) : Type 0 where
  pub more : ℕ
  pub less : ℕ
  pub is : t ≡ sub_ℕ more less
  pub high : more < 32768
  pub low : less ≤ 32768 + more

module _ (d : Drawing) (within : Within d) where
  pub taken_small : (S : Set) → taken_by (weighed d) S ≤ most_weight * most_constraints
  unfolding taken_by weighed
  taken_small S =
      omega (
        arith,
        within.few_constraints,
        sum_most (length d.constraints) most_weight (λ e. counted (holds (weighed d) S e) (constraint_weight d e))
            (λ e l. omega (arith, counted_le (holds (weighed d) S e) (constraint_weight d e), within.light_constraints e l)),
      )

  pub free_small : (S : Set) → free (weighed d) S ≤ most_weight * most_objects
  unfolding free weighed
  free_small S =
      omega (
        arith,
        within.few_objects,
        sum_most (length d.objects) most_weight (λ v. counted (S v) (weight_of d v))
            (λ v l. omega (arith, counted_le (S v) (weight_of d v), within.light_objects v l)),
      )

  pub top_short : (c : ℕ) (t : ℤ) → Top (weighed d) c t → Short t
  unfolding density
  top_short c t top =
      record {
        more = taken_by (weighed d) top.set;
        less = free (weighed d) top.set;
        is = sym top.reached.density_is;
        high = omega (arith, taken_small top.set);
        low = omega (arith, free_small top.set);
      }

-- a density above -32,768 and below 32,768, and so one that 16 bits hold
pub record Writable (t : ℤ) : Type 0 where
  pub low : negsuc 32767 <ℤ t
  pub high : t <ℤ pos 32768

pub short : (t : ℤ) → Writable t → Short t
short (pos n) w = record { more = n; less = 0; is = sym (sub_up n 0 n (omega arith)); high = omega (arith, ints, w.high); low = omega arith }
short (negsuc n) w =
    record { more = 0; less = suc n; is = sym (sub_down 0 (suc n) n (omega arith)); high = omega arith; low = omega (arith, ints, w.low) }

-- the block of an answer can be written, whatever the arrays that it is an answer for
module _ {n m c : ℕ} {ends weights takes objects shares : List ℕ} {t : ℤ} (solved : Solved n m c ends weights takes objects shares t) where
  pub writable : {e : ℕ} {marks : Marks} {b : Block} → b ≡ record { constraint = e; density = t; marks = marks } → Writable b.density
  writable is = rw is (record { low = omega (arith, ints, solved.low); high = omega (arith, ints, solved.high) })
