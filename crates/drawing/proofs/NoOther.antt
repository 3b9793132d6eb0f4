-- There are five kinds of objects and seven of constraints, and no other. Assumes nothing.
use mathlib.Core.Path.{◌≡◌, refl, sym, ◌∙◌}
use mathlib.Core.Bool.{Bool, true, false}
use Prim.Native.Nat.{ℕ, ◌<◌, ◌≤◌}
use native.Mathlib.Omega.{arith}
use lib.Dec.{eqb, lit≤}
use borrow.Author.Tests.{ne_eqb}
use Rattle.drawing.specs.declared.table.ObjectKind.{ObjectKind}
use Rattle.drawing.specs.declared.table.ObjectKind.TheVariants as object
use Rattle.drawing.specs.declared.table.ConstraintKind.{ConstraintKind}
use Rattle.drawing.specs.declared.table.ConstraintKind.TheVariants as constraint
use Rattle.drawing.specs.Choice.{pick}
use Rattle.drawing.specs.Table.{object_kind, object_table, table_weight, allowed}
use Rattle.drawing.specs.Kinds.{object_number, constraint_number, NoKind}
use Rattle.drawing.proofs.Choice.{pick_same, tests}
use Rattle.drawing.proofs.EitherOrder.{either_order}

-- the number of a kind is that of an object
pub is_object : (kind : ObjectKind) → object_kind (object_number kind) ≡ true
unfolding object_kind
is_object object.Point = refl
is_object object.Line = refl
is_object object.Circle = refl
is_object object.FreeCircle = refl
is_object object.Cluster = refl

-- a number that no object kind has: it is none of the five, it is no object's, and the table allows no such end
module _ (k : ℕ) (missing : NoKind object_number k) where
  one : eqb k 1 ≡ false
  one = ne_eqb k 1 (λ e. missing.none object.Point (sym e))

  two : eqb k 2 ≡ false
  two = ne_eqb k 2 (λ e. missing.none object.Line (sym e))

  three : eqb k 3 ≡ false
  three = ne_eqb k 3 (λ e. missing.none object.Circle (sym e))

  four : eqb k 4 ≡ false
  four = ne_eqb k 4 (λ e. missing.none object.FreeCircle (sym e))

  five : eqb k 5 ≡ false
  five = ne_eqb k 5 (λ e. missing.none object.Cluster (sym e))

  pub no_object : object_kind k ≡ false
  unfolding object_kind
  no_object = simp (one, two, three, four, five)

  pub no_table : object_table k ≡ 2
  unfolding object_table pick
  no_table = simp (four, five)

  pub no_end : (c b : ℕ) → table_weight c k b ≡ 0
  unfolding table_weight allowed pick
  no_end c b = simp (one, two, three, four, five, pick_same {X = Bool})

  pub no_other_end : (c a : ℕ) → table_weight c a k ≡ 0
  no_other_end c a = either_order c a k ∙ no_end c a

-- a number that no constraint kind has: the table allows no such constraint
pub no_constraint : (k : ℕ) → NoKind constraint_number k → (a b : ℕ) → table_weight k a b ≡ 0
unfolding table_weight allowed pick
no_constraint k missing a b =
    simp (
      ne_eqb k 1 (λ e. missing.none constraint.Distance (sym e)),
      ne_eqb k 2 (λ e. missing.none constraint.Angle (sym e)),
      ne_eqb k 3 (λ e. missing.none constraint.Coincidence (sym e)),
      ne_eqb k 4 (λ e. missing.none constraint.Incidence (sym e)),
      ne_eqb k 5 (λ e. missing.none constraint.Tangency (sym e)),
      ne_eqb k 6 (λ e. missing.none constraint.SharedPoint (sym e)),
      ne_eqb k 7 (λ e. missing.none constraint.SameCentre (sym e)),
    )

-- what the table does not allow weighs nothing
pub not_allowed : (k a b : ℕ) → allowed k a b ≡ false → table_weight k a b ≡ 0
unfolding table_weight pick
not_allowed k a b e = rw e

-- for the code that reads a kind
pub ruleset kinds = (is_object, no_object, no_table, no_end, no_other_end, no_constraint, not_allowed)

-- and for the code that judges an entry
pub ruleset judging = (tests, kinds)

-- no kind has a number above 5 or 7
object_few : (kind : ObjectKind) → object_number kind ≤ 5
object_few object.Point = lit≤ tt
object_few object.Line = lit≤ tt
object_few object.Circle = lit≤ tt
object_few object.FreeCircle = lit≤ tt
object_few object.Cluster = lit≤ tt

constraint_few : (kind : ConstraintKind) → constraint_number kind ≤ 7
constraint_few constraint.Distance = lit≤ tt
constraint_few constraint.Angle = lit≤ tt
constraint_few constraint.Coincidence = lit≤ tt
constraint_few constraint.Incidence = lit≤ tt
constraint_few constraint.Tangency = lit≤ tt
constraint_few constraint.SharedPoint = lit≤ tt
constraint_few constraint.SameCentre = lit≤ tt

pub no_other_object : (k : ℕ) → 5 < k → object_kind k ≡ false
no_other_object k h = no_object k (record { none = λ kind e. omega (arith, object_few kind) })

pub no_other_constraint : (k a b : ℕ) → 7 < k → table_weight k a b ≡ 0
no_other_constraint k a b h = no_constraint k (record { none = λ kind e. omega (arith, constraint_few kind) }) a b
