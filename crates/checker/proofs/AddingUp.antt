-- Laws of adding up the constraints of a sheet, one after the other. Assumes nothing.
use mathlib.Core.Path.{◌≡◌, refl, ap}
use mathlib.Core.List.{List}
use Prim.Native.Nat.{ℕ, ◌+◌, ◌*◌, ◌≤◌, ◌<◌}
use native.Mathlib.Numerals.{add-one}
use native.Mathlib.Omega.{arith}
use borrow.Author.Count.{below_more}
use borrow.Author.Tests.{eq-eqb, ne_eqb}
use mir.Syntax.{w16, w64}
use mir.Val.{Fits}
use lib.Dec.{eqb}
use lib.ListN.{length, set, replicate, length-set, length-replicate, get_or-replicate}
use Rattle.density.specs.Sum.{sum, counted}
use Rattle.density.specs.Net.{first, second}
use Rattle.density.specs.Sheet.{gives, gets}
use Rattle.density.proofs.Sums.{sum_le, sum_most, counted_le}
use Rattle.limits.specs.Limits.{most_objects, most_constraints, most_weight}
use Rattle.arrays.specs.At.{at}
use Rattle.arrays.proofs.Stores.{at_set_here, at_set_off}
use Rattle.arrays.specs.declared.NetArrays.{NetArrays}
use Rattle.arrays.specs.Held.{net_held}
use Rattle.checker.specs.declared.Tally.{Tally}
use Rattle.records.specs.Format.{two_at}
use Rattle.checker.specs.Sheet.{sheet_in}
use Rattle.checker.specs.Checked.{AddedUp}

sum_more : (k : ℕ) (f : ℕ → ℕ) → sum (k + 1) f ≡ sum k f + f k
unfolding sum
sum_more k f = ap (λ (j : ℕ). sum j f) (add-one k)

-- what the objects receive after one receives a share
received_more : (load : List ℕ) (v share u : ℕ) → v < length load
    → at (set load v (at load v + share)) u ≡ at load u + counted (eqb v u) share
received_more load v share u l = grind (arith, at_set_here, at_set_off, eq-eqb, ne_eqb)

pub none_added : (a : NetArrays) (sheet : List ℕ) → AddedUp a sheet 0 (record { total = 0; given = 0; load = replicate most_objects 0 })
unfolding sum
none_added a sheet =
    record {
      fits = λ i l. absurd (omega arith);
      total_is = refl;
      given_is = refl;
      load_is = λ v l. get_or-replicate most_objects v 0 0 l;
      load_long = length-replicate {A = ℕ} most_objects 0;
    }

-- what is added up stays small
module _ {a : NetArrays} {sheet : List ℕ} {e : ℕ} {t : Tally} (added : AddedUp a sheet e t) where
  pub total_small : e ≤ a.constraints → t.total ≤ most_weight * most_constraints
  total_small h =
      omega (arith, added.total_is, sum_most e most_weight (at a.takes) (λ i l. a.fair.light_constraints i (omega arith)), a.fair.few_constraints)

  pub given_small : t.given ≤ t.total
  given_small = omega (arith, added.total_is, added.given_is, sum_le e (gives (sheet_in sheet)) (at a.takes) added.fits)

  load_given : (v : ℕ) → v < most_objects → at t.load v ≤ t.given
  load_given v l =
      omega (arith, added.given_is, added.load_is v l, sum_le e (gets (net_held a) (sheet_in sheet) v) (gives (sheet_in sheet)) (λ i _. gets_le i))
    where
      gets_le : (i : ℕ) → gets (net_held a) (sheet_in sheet) v i ≤ gives (sheet_in sheet) i
      gets_le i =
          omega (
            arith,
            counted_le (eqb (at a.ends (2 * i)) v) (sheet_in sheet first i),
            counted_le (eqb (at a.ends (2 * i + 1)) v) (sheet_in sheet second i),
          )

  -- and by how many constraints there are
  module _ (light : (i : ℕ) → i < e → at a.takes i ≤ most_weight) where
    pub total_light : t.total ≤ most_weight * e
    total_light = omega (arith, added.total_is, sum_most e most_weight (at a.takes) light)

    pub given_light : t.given ≤ most_weight * e
    given_light = omega (arith, given_small, total_light)

    pub load_small : (v : ℕ) → v < most_objects → at t.load v ≤ most_weight * e
    load_small v l = omega (arith, load_given v l, given_light)

  -- one more: constraint e, whose two shares x and y fit its weight
  module _ (is : e < a.constraints) {x y : ℕ} (x_is : x ≡ two_at sheet (4 * e)) (y_is : y ≡ two_at sheet (4 * e + 2)) {i j weight : ℕ}
      (i_is : i ≡ x) (j_is : j ≡ y) (weight_is : weight ≡ at a.takes e) (fit : i + j ≤ weight) {v w : ℕ} (v_is : v ≡ at a.ends (2 * e)) (w_is : w ≡ at a.ends (2 * e + 1)) where
    v_low : v < most_objects
    v_low = omega (arith, a.fair.named (2 * e), a.fair.few_objects)

    w_low : w < most_objects
    w_low = omega (arith, a.fair.named (2 * e + 1), a.fair.few_objects)

    abbrev one : List ℕ
    one = set t.load v (at t.load v + x)

    one_at : (u : ℕ) → at one u ≡ at t.load u + counted (eqb v u) x
    one_at u = received_more t.load v x u (omega (arith, v_low, added.load_long))

    abbrev both : List ℕ
    both = set one w (at one w + y)

    both_at : (u : ℕ) → at both u ≡ at t.load u + (counted (eqb v u) x + counted (eqb w u) y)
    both_at u = omega (arith, received_more one w y u (simp length-set (omega (arith, w_low, added.load_long))), one_at u)

    -- none of the sums overflows
    pub first_fits : Fits w16 (at t.load v + x)
    first_fits =
        record { fits = omega (arith, load_given v v_low, given_small, total_small (omega arith), a.fair.light_constraints e is) }

    pub second_fits : Fits w16 (at one w + y)
    second_fits =
        record {
          fits =
              omega (arith, one_at w, counted_le (eqb v w) x, load_given w w_low, given_small, total_small (omega arith), a.fair.light_constraints e is);
        }

    pub total_fits : Fits w64 (t.total + weight)
    total_fits = record { fits = omega (arith, total_small (omega arith), a.fair.light_constraints e is) }

    pub given_fits : Fits w64 (t.given + (i + j))
    given_fits = record { fits = omega (arith, given_small, total_small (omega arith), a.fair.light_constraints e is) }

    pub one_added : AddedUp a sheet (e + 1) (record { total = t.total + weight; given = t.given + (i + j); load = both })
    one_added =
        record {
          fits = below_more (λ i. gives (sheet_in sheet) i ≤ at a.takes i) e added.fits (omega arith);
          total_is = omega (arith, added.total_is, sum_more e (at a.takes));
          given_is = omega (arith, added.given_is, sum_more e (gives (sheet_in sheet)));
          load_is =
              λ u l.
              omega (arith, both_at u, gets_is u, added.load_is u l, sum_more e (gets (net_held a) (sheet_in sheet) u));
          load_long = simp length-set added.load_long;
        }
      where
        gets_is : (u : ℕ) → counted (eqb v u) x + counted (eqb w u) y ≡ gets (net_held a) (sheet_in sheet) u e
        gets_is u = cc (v_is, w_is, x_is, y_is)

-- what the sums of adding up and its invariant take
pub ruleset adding = (none_added, first_fits, second_fits, total_fits, given_fits, one_added)
