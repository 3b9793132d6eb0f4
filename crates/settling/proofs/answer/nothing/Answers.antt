-- `settling::answer::nothing` meets its contract. Assumes nothing.
use Rattle.settling.proofs.answer.EmptyStart.{opened}
use Rattle.settling.proofs.answer.nothing.Goals as goal

pub invariant_of-result-clause-spread : goal.invariant_of-result-clause-spread
invariant_of-result-clause-spread c = opened c.args.net.now.fair
