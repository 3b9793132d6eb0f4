-- What the code's enums and results mean: a kind of record its number, what stands at a position a fault's number or the record, what the bytes
-- are read to a refusal's number or the drawing. Assumes nothing.
use Rattle.std.specs.Prelude.{◌≡◌, ℕ, true, false, Result, Ok, Err, MatchResult}
use Rattle.codes.specs.declared.Fault.{Fault}
use Rattle.codes.specs.declared.Fault.TheVariants as fault
use Rattle.codes.specs.Codes.{fault_number}
use Rattle.records.specs.declared.format.RecordKind.{RecordKind}
use Rattle.records.specs.declared.format.RecordKind.TheVariants as kind
use Rattle.records.specs.declared.format.Record as read
use Rattle.records.specs.declared.format.Record.TheVariants as found
use Rattle.drawing.specs.Entry.{Drawing}
use Rattle.records.specs.Format.{an_object, a_constraint, an_end, known_kind, Record, faulty, object, constraint, end}
use Rattle.records.specs.Read.{Reading, refused, accepted}

-- the number of a kind
abbrev pub kind_number : RecordKind → ℕ
kind_number kind.Object = an_object
kind_number kind.Constraint = a_constraint
kind_number kind.End = an_end

-- a number is that of a kind, or it is no kind's
abbrev pub KindOrFault : ℕ → Result RecordKind Fault → Type 0
KindOrFault n r =
    MatchResult r (λ k. (known_kind n ≡ true) × (kind_number k ≡ n)) (λ f. (known_kind n ≡ false) × (f ≡ fault.RecordKind))

-- what stands at a position
abbrev pub meant : Result read.Record Fault → Record
meant (Ok (found.Object o)) = object o
meant (Ok (found.Constraint c)) = constraint c
meant (Ok found.End) = end
meant (Err f) = faulty (fault_number f)

-- what the bytes of a drawing are read to
abbrev pub reading_of : Result Drawing Fault → Reading
reading_of (Ok d) = accepted d
reading_of (Err f) = refused (fault_number f)

-- the same, where the entries are lent
abbrev pub filling_of : {A : Type 0} → Result A Fault → Drawing → Reading
filling_of (Ok _) d = accepted d
filling_of (Err f) _ = refused (fault_number f)
