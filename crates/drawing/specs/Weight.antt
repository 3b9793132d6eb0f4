-- The weights in force. 01, 'The bytes of a drawing': "A stated weight of 0 means the table weight. Any other stated weight
-- replaces the table weight and is never added to it." Each is a function of the whole drawing and a number. Assumes nothing.
use Rattle.std.specs.Prelude.{ℕ, eqb}
use Rattle.drawing.specs.Choice.{pick}
use Rattle.drawing.specs.Table.{object_table, table_weight}
use Rattle.drawing.specs.Entry.{Drawing, object_at, constraint_at, kind_of}

-- the stated weight in the place of the table weight
unfoldable pub in_force : ℕ → ℕ → ℕ
in_force stated table = pick (eqb stated 0) table stated

-- the weight of object i
unfoldable pub object_weight : Drawing → ℕ → ℕ
object_weight d i = in_force (object_at d i).stated (object_table (kind_of d i))

-- the weight of constraint e
unfoldable pub constraint_weight : Drawing → ℕ → ℕ
constraint_weight d e =
    in_force (constraint_at d e).stated
    (table_weight (constraint_at d e).kind (kind_of d (constraint_at d e).first) (kind_of d (constraint_at d e).second))
