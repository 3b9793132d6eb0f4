-- `counter::count::lowest_above` meets its contract. The invariant: no constraint passed has a top density above K. Assumes nothing.
use Rattle.counter.proofs.count.Passing.{Passed}
use Rattle.counter.proofs.count.lowest_above.Given as goal

abbrev pub invariant-loop-c : goal.invariant-loop-c
invariant-loop-c l = Passed l.net l.fn.k l.c
