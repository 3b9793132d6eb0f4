use Rattle.checker.proofs.AddingUp.{adding}
use borrow.Author.Rules.{rules}
use Rattle.checker.proofs.add_up.Goals as goal

pub loop-e-init : goal.loop-e-init
loop-e-init c = search (adding, rules)

pub overflow_add-tally : goal.overflow_add-tally
overflow_add-tally c = search (adding, rules)

pub overflow_add-tally-in-loop-e : goal.overflow_add-tally-in-loop-e
overflow_add-tally-in-loop-e c = search (adding, rules)

pub overflow_add-tally-in-loop-e-2 : goal.overflow_add-tally-in-loop-e-2
overflow_add-tally-in-loop-e-2 c = search (adding, rules)

pub overflow_add-tally-in-loop-e-3 : goal.overflow_add-tally-in-loop-e-3
overflow_add-tally-in-loop-e-3 c = search (adding, rules)

pub loop-e-preserved : goal.loop-e-preserved
loop-e-preserved c = search (adding, rules)
