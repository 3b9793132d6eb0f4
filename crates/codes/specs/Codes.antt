-- The numbers of 01, 'What is turned away, in order' and 'The questions'. Assumes nothing.
use Rattle.std.specs.Prelude.{ℕ, Result, Ok, Err}
use Rattle.codes.specs.declared.Fault.{Fault}
use Rattle.codes.specs.declared.Fault.TheVariants as fault
use Rattle.codes.specs.declared.Answer.{Answer}
use Rattle.codes.specs.declared.Answer.TheVariants as answer

-- the number of a refusal
abbrev pub fault_number : Fault → ℕ
fault_number fault.CutOff = 1  -- "the bytes end inside a record's head or body, or before an end record"
fault_number fault.RecordKind = 2  -- "record kind not 1 to 3"
fault_number fault.BodyLength = 3  -- "length is not that of the kind"
fault_number fault.ObjectBehindConstraint = 4  -- "an object after a constraint"
fault_number fault.OverLimit = 5  -- "the 129th object or the 513th constraint"
fault_number fault.NotInTable = 6  -- "unknown object kind, or a constraint the table does not allow between these objects"
fault_number fault.StatedWeight = 7  -- "stated weight above 15"
fault_number fault.BadEnd = 8  -- "an end that names no object, or both ends the same"
fault_number fault.BytesBehindEnd = 9  -- "bytes after the end record"
fault_number fault.KOutOfRange = 10  -- "K outside its range"
fault_number fault.NoSuchConstraint = 11  -- "no constraint has the number c"
fault_number fault.TooShort = 12  -- "buffer or sheet too short"

-- "Answered is code 0"; "code 32, none"; "else code 33"
abbrev pub answer_number : Answer → ℕ
answer_number answer.Given = 0
answer_number answer.None = 32
answer_number answer.NotShown = 33

-- the number of the fault, 0 where there is none
abbrev pub fault_of : {A : Type 0} → Result A Fault → ℕ
fault_of (Ok _) = 0
fault_of (Err f) = fault_number f

-- the code of a call
abbrev pub outcome_code : Result Answer Fault → ℕ
outcome_code (Ok a) = answer_number a
outcome_code (Err f) = fault_number f
