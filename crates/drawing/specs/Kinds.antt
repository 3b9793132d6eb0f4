-- The kinds as the code has them, and the number of each. 01, 'The bytes of a drawing'. Assumes nothing.
use Rattle.std.specs.Prelude.{◌≡◌, true, ℕ, Result, MatchResult}
use Rattle.codes.specs.declared.Fault.{Fault}
use Rattle.codes.specs.declared.Fault.TheVariants as fault
use Rattle.drawing.specs.Table.{allowed, table_weight}
use Rattle.drawing.specs.declared.table.ObjectKind.{ObjectKind}
use Rattle.drawing.specs.declared.table.ObjectKind.TheVariants as object
use Rattle.drawing.specs.declared.table.ConstraintKind.{ConstraintKind}
use Rattle.drawing.specs.declared.table.ConstraintKind.TheVariants as constraint

-- the number of an object kind, and of a constraint kind
abbrev pub object_number : ObjectKind → ℕ
object_number object.Point = 1  -- "1 point"
object_number object.Line = 2  -- "2 line"
object_number object.Circle = 3  -- "3 circle of given radius"
object_number object.FreeCircle = 4  -- "4 circle of free radius"
object_number object.Cluster = 5  -- "5 rigid cluster"

abbrev pub constraint_number : ConstraintKind → ℕ
constraint_number constraint.Distance = 1  -- "1 distance"
constraint_number constraint.Angle = 2  -- "2 angle, parallel included"
constraint_number constraint.Coincidence = 3  -- "3 coincidence"
constraint_number constraint.Incidence = 4  -- "4 incidence"
constraint_number constraint.Tangency = 5  -- "5 tangency"
constraint_number constraint.SharedPoint = 6  -- "6 shared point"
constraint_number constraint.SameCentre = 7  -- "7 same centre"

-- no kind has this number
pub record NoKind {K : Type 0} (number : K → ℕ) (k : ℕ) : Type 0 where
  pub none : (kind : K) → number kind ≡ k → ⊥

-- the kind with this number, or fault 6 where no kind has it
abbrev pub KindOf : {K : Type 0} → (K → ℕ) → ℕ → Result K Fault → Type 0
KindOf number k r = MatchResult r (λ kind. number kind ≡ k) (λ f. (f ≡ fault.NotInTable) × NoKind number k)

-- the weight of each constraint of this kind that the table allows
abbrev pub Weighs : ConstraintKind → ℕ → Type 0
Weighs kind w = (a b : ℕ) → allowed (constraint_number kind) a b ≡ true → table_weight (constraint_number kind) a b ≡ w
