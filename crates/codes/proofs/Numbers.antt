-- The number of a refusal is never 0. Assumes nothing.
use Rattle.std.specs.Prelude.{◌≤◌}
use Rattle.std.proofs.Common.{arith}
use Rattle.codes.specs.declared.Fault.{Fault}
use Rattle.codes.specs.declared.Fault.TheVariants as fault
use Rattle.codes.specs.Codes.{fault_number}

pub at_least_1 : (f : Fault) → 1 ≤ fault_number f
at_least_1 fault.CutOff = omega arith
at_least_1 fault.RecordKind = omega arith
at_least_1 fault.BodyLength = omega arith
at_least_1 fault.ObjectBehindConstraint = omega arith
at_least_1 fault.OverLimit = omega arith
at_least_1 fault.NotInTable = omega arith
at_least_1 fault.StatedWeight = omega arith
at_least_1 fault.BadEnd = omega arith
at_least_1 fault.BytesBehindEnd = omega arith
at_least_1 fault.KOutOfRange = omega arith
at_least_1 fault.NoSuchConstraint = omega arith
at_least_1 fault.TooShort = omega arith
