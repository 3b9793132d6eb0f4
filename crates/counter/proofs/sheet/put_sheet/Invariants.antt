-- `counter::sheet::put_sheet` meets its contract. The invariant: the shares below i are written. Assumes nothing.
use Rattle.counter.proofs.sheet.Writing.{SharesWritten}
use Rattle.counter.proofs.sheet.put_sheet.Given as goal

abbrev pub invariant-loop-i : goal.invariant-loop-i
invariant-loop-i l = SharesWritten l.i l.shares l.initial.buffer l.buffer
