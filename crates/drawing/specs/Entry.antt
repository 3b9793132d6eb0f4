-- Entries as read, and a drawing. 01, 'What it covers': "A drawing is a list of objects and a list of constraints, each
-- between two objects .. Objects and constraints are each numbered from 0 in the order in which they are read." Assumes nothing.
use Rattle.std.specs.Prelude.{ℕ, List, [], ◌∷◌, ◌++◌, get_or}
use Rattle.drawing.specs.declared.Object.{Object}
use Rattle.drawing.specs.declared.Constraint.{Constraint}

-- entries are the code's structs: an object has kind and stated weight, a constraint first and second end, kind and stated weight
pub record Drawing : Type 0 where
  pub objects : List Object
  pub constraints : List Constraint

-- what stands where there is no entry
abbrev pub no_object : Object
no_object = record { kind = 0; stated = 0 }

abbrev pub no_constraint : Constraint
no_constraint = record { first = 0; second = 0; kind = 0; stated = 0 }

-- object i and constraint e
abbrev pub object_at : Drawing → ℕ → Object
object_at d i = get_or d.objects i no_object

abbrev pub constraint_at : Drawing → ℕ → Constraint
constraint_at d e = get_or d.constraints e no_constraint

-- the kind of object i, and 0 where no object has that number
abbrev pub kind_of : Drawing → ℕ → ℕ
kind_of d i = (object_at d i).kind

-- the drawing in which nothing has been read, and one entry more
abbrev pub empty_drawing : Drawing
empty_drawing = record { objects = []; constraints = [] }

abbrev pub with_object : Drawing → Object → Drawing
with_object d o = record { objects = d.objects ++ (o ∷ []); constraints = d.constraints }

abbrev pub with_constraint : Drawing → Constraint → Drawing
with_constraint d c = record { objects = d.objects; constraints = d.constraints ++ (c ∷ []) }
