-- `settling::answer::remainder` meets its contract. The invariant: the sum over the constraints passed. Assumes nothing.
use Rattle.settling.specs.Answer.{Remainder}
use Rattle.settling.proofs.answer.remainder.Given as goal

abbrev pub invariant-loop-e : goal.invariant-loop-e
invariant-loop-e l = Remainder l.e l.net.takes l.shares l.sum
