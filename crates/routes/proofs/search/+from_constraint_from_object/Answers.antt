use Rattle.std.proofs.Common.{◌≡◌, ◌∙◌, ℕ, List, sym, ap, arith, rules}
use Rattle.routes.specs.declared.chains.Chains.{Chains}
use native.Mathlib.Nat.{pos_of_ne-zero}
use Rattle.arrays.specs.At.{at}
use Rattle.routes.specs.Chains.{Chained}
use Rattle.routes.specs.State.{State, Sized}
use Rattle.routes.specs.Search.{ReadyObject}
use Rattle.routes.proofs.search.BothEnds.{both_falls, first_asks, first_small, first_falls, first_found, second_asks, both_count_small, both_searched}
use Rattle.routes.proofs.search.AtObject.{Visit, object_using_room, object_used}
use Rattle.routes.proofs.search.FromFull.{walk_end, walk_falls, walk_asks, walk_count_small, walk_on, walk_shifting, walk_moved}
use Rattle.routes.proofs.search.+from_constraint_from_object.Goals as goal

-- ---- from_constraint

pub from_constraint-from_object-one-requires : goal.from_constraint-from_object-one-requires
from_constraint-from_object-one-requires t c =
    let few = c.args.chains.now.chained.few in
    (omega (arith, both_falls few (search rules) c.requires, c.decreases), first_asks few (search rules) c.requires)

pub from_constraint-overflow_add-one : goal.from_constraint-overflow_add-one
from_constraint-overflow_add-one t c =
    omega (arith, first_small c.args.chains.now.chained.few (search rules) c.requires c.from_object-one.ensures)

pub from_constraint-returns-then-one : goal.from_constraint-returns-then-one
from_constraint-returns-then-one t c =
    first_found c.args.chains.now.chained.few (search rules) c.requires c.from_object-one.ensures c.if-one.true

pub from_constraint-from_object-two-requires : goal.from_constraint-from_object-two-requires
from_constraint-from_object-two-requires t c =
    let few = c.args.chains.now.chained.few in (
      omega (arith, first_falls few (search rules) c.requires c.from_object-one.ensures, c.decreases),
      second_asks few (search rules) c.requires c.from_object-one.ensures c.if-one.false,
    )

pub from_constraint-overflow_add-result : goal.from_constraint-overflow_add-result
from_constraint-overflow_add-result t c =
    omega (arith, both_count_small c.args.chains.now.chained.few (search rules) c.requires c.from_object-one.ensures c.from_object-two.ensures)

pub from_constraint-returns : goal.from_constraint-returns
from_constraint-returns t c =
    both_searched c.args.chains.now.chained.few (search rules) c.requires c.from_object-one.ensures c.from_object-two.ensures c.if-one.false

-- ---- from_object

-- what is known at the object v
visit : {m i v : ℕ} {ends head next : List ℕ} {s : State} → Chained m ends head next → Sized s → ReadyObject m i ends s → v ≡ at ends i
    → Visit m i v ends head next s
visit chained sized ready is = record { chained = chained; sized = sized; ready = ready; is = sym is }

pub from_object-use_room-requires : goal.from_object-use_room-requires
from_object-use_room-requires t c =
    object_using_room (visit c.args.chains.now.chained (search rules) c.requires c.from-v.ensures) (pos_of_ne-zero c.if-sharing-v-ne0.true)

pub from_object-returns-then-sharing-v-ne0 : goal.from_object-returns-then-sharing-v-ne0
from_object-returns-then-sharing-v-ne0 t c =
    rw c.use_room.ensures
    (object_used (visit c.args.chains.now.chained (search rules) c.requires c.from-v.ensures) (pos_of_ne-zero c.if-sharing-v-ne0.true) c.if-marks-v-ne0.false)

pub from_object-from_constraint-route-requires : goal.from_object-from_constraint-route-requires
from_object-from_constraint-route-requires t c =
    let walk = c.loop-k.invariant.1 in
    (omega (arith, walk_falls walk, c.decreases), walk_asks walk c.in-Some.ensures.steps.1.0 (c.waiting.ensures.yes c.if-waiting.true).1)

pub from_object-overflow_add-count : goal.from_object-overflow_add-count
from_object-overflow_add-count t c =
    let walk = c.loop-k.invariant.1 in
    omega (arith, walk_count_small walk c.in-Some.ensures.steps.1.0 c.from_constraint-route.ensures)

pub from_object-shift-requires : goal.from_object-shift-requires
from_object-shift-requires t c =
    let shifting = walk_shifting c.loop-k.invariant.1 c.in-Some.ensures.steps.1.0 c.from_constraint-route.ensures (c.waiting.ensures.yes c.if-waiting.true).0 c.if-route.true in
    search rules

pub from_object-returns-then-route : goal.from_object-returns-then-route
from_object-returns-then-route t c =
    let walk = c.loop-k.invariant.1 in
    rw c.shift.ensures
    (walk_moved walk c.in-Some.ensures.steps.1.0 c.from_constraint-route.ensures (c.waiting.ensures.yes c.if-waiting.true).0 c.if-route.true)

pub from_object-loop-k-preserved-then-waiting : goal.from_object-loop-k-preserved-then-waiting
from_object-loop-k-preserved-then-waiting t c =
    let walk = c.loop-k.invariant.1 in
    let steps = c.in-Some.ensures.steps in (
      steps.0 ∙ c.loop-k.invariant.0,
      walk_on walk steps.1.0 c.from_constraint-route.ensures (c.waiting.ensures.yes c.if-waiting.true).0 c.if-route.false
          (steps.1.1 ∙ ap (λ (x : Chains). at x.next c.in-Some.k) c.loop-k.invariant.0),
    )

pub from_object-returns : goal.from_object-returns
from_object-returns t c =
    let walk = c.loop-k.invariant.1 in
    walk_end walk c.in-None.ensures.steps.1 c.if-sharing-v-ne0.false
