-- `counter::block::set_byte` meets its contract. The invariant: the byte holds the bits below b. Assumes nothing.
use Rattle.counter.proofs.block.Writing.{BitsBelow}
use Rattle.counter.proofs.block.set_byte.Given as goal

abbrev pub invariant-loop-b : goal.invariant-loop-b
invariant-loop-b l = BitsBelow l.marks.objects l.j l.b l.byte
