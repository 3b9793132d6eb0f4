-- The faults of an entry: each is one of 01's numbers, and an entry with none is sound. Assumes nothing.
use mathlib.Core.Path.{◌≡◌}
use Prim.Native.Nat.{ℕ, ◌≤◌}
use native.Mathlib.Omega.{arith}
use lib.Dec.{lit<}
use borrow.Author.Tests.{ltb-false, leb-false, eqb-false, not-false}
use Rattle.drawing.specs.declared.Object.{Object}
use Rattle.drawing.specs.declared.Constraint.{Constraint}
use Rattle.drawing.specs.Table.{table_weight}
use Rattle.drawing.specs.Fault.{last_refusal, object_fault, constraint_fault}
use Rattle.drawing.specs.Sound.{NextObject, NextConstraint}
use Rattle.drawing.proofs.Choice.{passed, row_bounds}

pub object_most : (n m : ℕ) (o : Object) → object_fault n m o ≤ last_refusal
unfolding object_fault
object_most n m o = search row_bounds depth 9

pub constraint_most : (n m a b : ℕ) (c : Constraint) → constraint_fault n m a b c ≤ last_refusal
unfolding constraint_fault
constraint_most n m a b c = search row_bounds depth 9

pub object_sound : (n m : ℕ) (o : Object) → object_fault n m o ≡ 0 → NextObject n m o
unfolding object_fault
object_sound n m o e =
    let order = passed _ _ _ (lit< tt) e in
    let limit = passed _ _ _ (lit< tt) order.none in
    let kind = passed _ _ _ (lit< tt) limit.none in
    let weight = passed _ _ _ (lit< tt) kind.none in
    record {
      first_come = omega (arith, ltb-false 0 m order.failed);
      in_limit = leb-false _ _ limit.failed;
      sound = record { known = not-false _ kind.failed; small = ltb-false _ _ weight.failed };
    }

pub constraint_sound : (n m a b : ℕ) (c : Constraint) → constraint_fault n m a b c ≡ 0 → NextConstraint n m a b c
unfolding constraint_fault
constraint_sound n m a b c e =
    let limit = passed _ _ _ (lit< tt) e in
    let one = passed _ _ _ (lit< tt) limit.none in
    let other = passed _ _ _ (lit< tt) one.none in
    let same = passed _ _ _ (lit< tt) other.none in
    let kind = passed _ _ _ (lit< tt) same.none in
    let weight = passed _ _ _ (lit< tt) kind.none in
    record {
      in_limit = leb-false _ _ limit.failed;
      sound = record {
        first_is = leb-false _ _ one.failed;
        second_is = leb-false _ _ other.failed;
        apart = eqb-false _ _ same.failed;
        in_table = omega (arith, eqb-false (table_weight c.kind a b) 0 kind.failed);
        small = ltb-false _ _ weight.failed;
      };
    }
