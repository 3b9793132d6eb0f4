-- `counter::block::put_set` meets its contract. The invariant: the bytes below j are those of the set. Assumes nothing.
use Rattle.counter.proofs.block.Writing.{SetBelow}
use Rattle.counter.proofs.block.put_set.Given as goal

abbrev pub invariant-loop-j : goal.invariant-loop-j
invariant-loop-j l = SetBelow l.marks.objects l.j l.byte-items
