-- One record among the bytes. 01, 'The bytes of a drawing': "Every record: length of the body (two bytes), kind (two bytes),
-- body. All numbers are little-endian." Assumes nothing.
use Rattle.std.specs.Prelude.{ℕ, ◌+◌, ◌*◌, Bool, not, ◌||◌, List, length, get_or, eqb, ltb}
use Rattle.drawing.specs.Choice.{pick}
use Rattle.drawing.specs.declared.Object.{Object}
use Rattle.drawing.specs.declared.Constraint.{Constraint}

-- the number in the two bytes at a position, and the byte there
abbrev pub byte_at : List ℕ → ℕ → ℕ
byte_at s at = get_or s at 0

unfoldable pub two_at : List ℕ → ℕ → ℕ
two_at s at = byte_at s at + 256 * byte_at s (at + 1)

-- the record kinds, "1 object", "2 constraint", "3 end"
abbrev pub an_object : ℕ
an_object = 1

abbrev pub a_constraint : ℕ
a_constraint = 2

abbrev pub an_end : ℕ
an_end = 3

-- the bytes of a head, of an object's body and of a constraint's; an end has none
abbrev pub head_size : ℕ
head_size = 4

abbrev pub object_body_size : ℕ
object_body_size = 2

abbrev pub constraint_body_size : ℕ
constraint_body_size = 6

unfoldable pub body_length : ℕ → ℕ
body_length kind = pick (eqb kind an_object) object_body_size (pick (eqb kind a_constraint) constraint_body_size 0)

-- the head at a position: the length that it states, and its kind
abbrev pub stated_length : List ℕ → ℕ → ℕ
stated_length s at = two_at s at

abbrev pub record_kind : List ℕ → ℕ → ℕ
record_kind s at = two_at s (at + 2)

-- where the record behind one of this kind starts
abbrev pub next_record : ℕ → ℕ → ℕ
next_record at kind = at + head_size + body_length kind

-- whether a record kind is one of the three
abbrev pub known_kind : ℕ → Bool
known_kind kind = eqb kind an_object || eqb kind a_constraint || eqb kind an_end

-- "head short (1), 2, 3, body short (1)"
unfoldable pub head_fault : List ℕ → ℕ → ℕ
head_fault s at =
    pick (ltb (length s) (at + head_size)) 1  -- "the bytes end inside a record's head .., or before an end record"
    (pick (not (known_kind (record_kind s at))) 2  -- "record kind not 1 to 3"
    (pick (not (eqb (stated_length s at) (body_length (record_kind s at)))) 3  -- "length is not that of the kind"
    (pick (ltb (length s) (next_record at (record_kind s at))) 1  -- "the bytes end inside a record's .. body"
    0)))

-- "2 bytes: object kind, stated weight"
abbrev pub object_body : List ℕ → ℕ → Object
object_body s at = record { kind = byte_at s at; stated = byte_at s (at + 1) }

-- "6 bytes: first end (2), second end (2), constraint kind, stated weight"
abbrev pub constraint_body : List ℕ → ℕ → Constraint
constraint_body s at = record { first = two_at s at; second = two_at s (at + 2); kind = byte_at s (at + 4); stated = byte_at s (at + 5) }

-- a record as it stands in the bytes: faulty in its head or cut off, or with its body as read
pub data Record : Type 0 where
  faulty : ℕ → Record
  object : Object → Record
  constraint : Constraint → Record
  end : Record

-- the body of a record of one of the three kinds
abbrev pub body_of : ℕ → List ℕ → ℕ → Record
body_of kind s at = pick (eqb kind an_object) (object (object_body s at)) (pick (eqb kind a_constraint) (constraint (constraint_body s at)) end)

unfoldable pub record_at : List ℕ → ℕ → Record
record_at s at = pick (eqb (head_fault s at) 0) (body_of (record_kind s at) s (at + head_size)) (faulty (head_fault s at))
