use borrow.Author.Rules.{rules}
use Rattle.counter.proofs.block.Writing.{bit_laws}
use Rattle.counter.proofs.block.set_byte.Goals as goal
use Rattle.counter.proofs.block.set_byte.Goals.{then-marks-j-gt0, else-marks-j-gt0}

pub loop-b-preserved : goal.loop-b-preserved
loop-b-preserved c =
    elim c.if-marks-j-gt0.branch [ then-marks-j-gt0 w ↦ rw w.byte-is (search (bit_laws, rules)) | else-marks-j-gt0 w ↦ rw w.byte-is (search (bit_laws, rules)) ]
