use Rattle.std.proofs.Common.{arith, rules, refl}
use borrow.Author.Tests.{not-true, not-false}
use Rattle.settling.proofs.settle.OneConstraint.{going_no_route, going_on}
use Rattle.settling.proofs.settle.hand_out.Goals as goal

pub returns-then-not-route : goal.returns-then-not-route
returns-then-not-route c =
    let stuck = going_no_route c.requires c.loop-before.invariant.going (omega arith) c.from_constraint-route.ensures (not-true _ c.if-not-route.true) in
    search rules

pub loop-before-preserved : goal.loop-before-preserved
loop-before-preserved c =
    let on = going_on c.requires c.loop-before.invariant.going (omega arith) c.from_constraint-route.ensures (not-false _ c.if-not-route.false) in
    record { going = rw c.loop-before.invariant.same at on; same = refl }
