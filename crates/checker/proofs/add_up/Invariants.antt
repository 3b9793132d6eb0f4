-- `checker::add_up` meets its contract. The invariant: the constraints below e are added up. Assumes nothing.
use Rattle.checker.specs.Checked.{AddedUp}
use Rattle.checker.proofs.add_up.Given as goal

abbrev pub invariant-loop-e : goal.invariant-loop-e
invariant-loop-e l = AddedUp l.net l.sheet l.e l.tally
