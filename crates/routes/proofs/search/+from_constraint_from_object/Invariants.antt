-- The proof of the cycle of calls {from_constraint, from_object}. The measure of both is the number of unmarked items, which
-- falls with each call, since the caller has marked its own item. Each goal is a law of BothEnds, AtObject or FromFull beside it.
-- Assumes nothing.
use Rattle.std.proofs.Common.{◌≡◌}
use Rattle.routes.specs.State.{seen_state, unmarked}
use Rattle.routes.proofs.search.FromFull.{Walk}
use Rattle.routes.proofs.search.+from_constraint_from_object.Given as goal

abbrev pub decreases-from_constraint : goal.decreases-from_constraint
decreases-from_constraint l = unmarked l.chains.now.constraints (seen_state l.marks l.sharing.now)

abbrev pub decreases-from_object : goal.decreases-from_object
decreases-from_object l = unmarked l.chains.now.constraints (seen_state l.marks l.sharing.now)

abbrev pub invariant-from_object-loop-k : goal.invariant-from_object-loop-k
invariant-from_object-loop-k l =
    (l.k-iterator.chains.now ≡ l.chains) × Walk l.chains.constraints l.i l.v l.chains.ends l.chains.head l.chains.next
    (seen_state l.fn.marks l.initial.sharing) (seen_state l.marks l.sharing) l.k-iterator.left l.count
