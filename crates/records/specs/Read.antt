-- Reading a drawing. 01, 'What is turned away, in order': "Records are judged front to back; the first faulty one decides."
-- Assumes nothing.
use Rattle.std.specs.Prelude.{ℕ, zero, suc, List, length, ltb}
use Rattle.drawing.specs.Choice.{pick}
use Rattle.drawing.specs.Entry.{Drawing, empty_drawing, with_object, with_constraint}
use Rattle.drawing.specs.Fault.{object_fault_in, constraint_fault_in}
use Rattle.records.specs.Format.{Record, faulty, object, constraint, end, record_at, next_record, an_object, a_constraint, an_end}

-- refused with a number of 01, or accepted with the entries as read
pub data Reading : Type 0 where
  refused : ℕ → Reading
  accepted : Drawing → Reading

-- refused where there is a fault, else what comes after
abbrev pub unless : ℕ → Reading → Reading
unless zero r = r
unless (suc n) r = refused (suc n)

-- "bytes after the end record", which stops at a position
unfoldable pub behind_fault : List ℕ → ℕ → ℕ
behind_fault s at = pick (ltb at (length s)) 9 0

-- the record at a position, judged after the entries of d; `on` reads on behind it
abbrev pub read_on : List ℕ → ℕ → Drawing → Record → (ℕ → Drawing → Reading) → Reading
read_on s at d (faulty n) on = refused n
read_on s at d (object o) on = unless (object_fault_in d o) (on (next_record at an_object) (with_object d o))
read_on s at d (constraint c) on = unless (constraint_fault_in d c) (on (next_record at a_constraint) (with_constraint d c))
read_on s at d end on = unless (behind_fault s (next_record at an_end)) (accepted d)

-- the records from a position on, at most `turns` of them; "the bytes end .. before an end record" is 1
unfoldable pub read_from : ℕ → List ℕ → ℕ → Drawing → Reading
read_from zero s at d = refused 1
read_from (suc turns) s at d = read_on s at d (record_at s at) (read_from turns s)

-- a record has at least four bytes, so more turns than bytes reach the end
unfoldable pub read : List ℕ → Reading
read s = read_from (suc (length s)) s 0 empty_drawing
