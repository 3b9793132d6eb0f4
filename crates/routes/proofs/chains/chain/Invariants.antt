-- `routes::chains::chain` meets its contract. The invariant: the places below i are chained. Assumes nothing.
use Rattle.routes.proofs.chains.Chaining.{Chaining}
use Rattle.routes.proofs.chains.chain.Given as goal

abbrev pub invariant-loop-i : goal.invariant-loop-i
invariant-loop-i l = Chaining l.ends l.head l.next l.i
