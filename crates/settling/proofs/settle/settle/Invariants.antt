-- `settling::settle::settle` meets its contract. The invariant: the state is kept, and the constraints passed are done. Assumes
-- nothing.
use Rattle.std.proofs.Common.{ℕ, ◌<◌}
use Rattle.routes.specs.State.{seen_state}
use Rattle.settling.specs.Settle.{Kept, Onward, Done}
use Rattle.settling.proofs.settle.settle.Given as goal

abbrev pub invariant-loop-e : goal.invariant-loop-e
invariant-loop-e l =
    let m = l.chains.constraints in
    let ends = l.chains.ends in
    let before = seen_state l.initial.reached l.initial.sharing in
    let now = seen_state l.reached l.sharing in
    record {
      kept : Kept m ends l.takes now;
      onward : Onward m ends l.takes before now;
      below : (x : ℕ) → x < l.e → Done l.takes now x;
    }
