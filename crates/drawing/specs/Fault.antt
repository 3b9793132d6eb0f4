-- What is wrong with an entry, judged on its values. 01, 'What is turned away, in order'. A fault is its number there, and 0
-- is none; each test has its own line, in the order of "Within one: .. 4, 5, 8, 6, 7". Assumes nothing.
use Rattle.std.specs.Prelude.{ℕ, ◌≤◌, not, length, eqb, leb, ltb}
use Rattle.drawing.specs.Choice.{pick}
use Rattle.drawing.specs.Table.{object_kind, table_weight}
use Rattle.drawing.specs.declared.Object.{Object}
use Rattle.drawing.specs.declared.Constraint.{Constraint}
use Rattle.drawing.specs.Entry.{Drawing, kind_of}
use Rattle.limits.specs.Limits.{most_objects, most_constraints, most_weight}

-- the greatest number with which a drawing is refused: "Within one: .. Then 9"
abbrev pub last_refusal : ℕ
last_refusal = 9

pub record RefusalNumber (n : ℕ) : Type 0 where
  pub least : 1 ≤ n
  pub most : n ≤ last_refusal

-- an object after n objects and m constraints
unfoldable pub object_fault : ℕ → ℕ → Object → ℕ
object_fault n m o =
    pick (ltb 0 m) 4  -- "an object after a constraint"
    (pick (leb most_objects n) 5  -- "the 129th object"
    (pick (not (object_kind o.kind)) 6  -- "unknown object kind"
    (pick (ltb most_weight o.stated) 7  -- "stated weight above 15"
    0)))

-- a constraint after n objects and m constraints, where a and b are the kinds of the objects that its ends name
unfoldable pub constraint_fault : ℕ → ℕ → ℕ → ℕ → Constraint → ℕ
constraint_fault n m a b c =
    pick (leb most_constraints m) 5  -- "the 513th constraint"
    (pick (leb n c.first) 8  -- "an end that names no object"
    (pick (leb n c.second) 8
    (pick (eqb c.first c.second) 8  -- "or both ends the same"
    (pick (eqb (table_weight c.kind a b) 0) 6  -- "a constraint the table does not allow between these objects"
    (pick (ltb most_weight c.stated) 7  -- "stated weight above 15"
    0)))))

-- the same after what has been read
abbrev pub object_fault_in : Drawing → Object → ℕ
object_fault_in d o = object_fault (length d.objects) (length d.constraints) o

abbrev pub constraint_fault_in : Drawing → Constraint → ℕ
constraint_fault_in d c =
    constraint_fault (length d.objects) (length d.constraints) (kind_of d c.first) (kind_of d c.second) c
