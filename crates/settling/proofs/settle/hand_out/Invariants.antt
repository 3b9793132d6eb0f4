-- `settling::settle::hand_out` meets its contract. The invariant: the state is kept, with the marks of the start, which were put aside. Assumes nothing.
use Rattle.std.proofs.Common.{◌-◌, ◌≡◌}
use Rattle.arrays.specs.At.{at}
use Rattle.routes.specs.State.{seen_state, both_shares}
use Rattle.settling.proofs.settle.OneConstraint.{Going}
use Rattle.settling.proofs.settle.hand_out.Given as goal

abbrev pub invariant-loop-before : goal.invariant-loop-before
invariant-loop-before l = record {
  going : Going l.chains.constraints l.e l.chains.ends l.takes (seen_state l.marks l.initial.sharing) (seen_state l.marks l.sharing);
  same : l.sharing.stuck ≡ l.before;
}

abbrev pub decreases-loop-before : goal.decreases-loop-before
decreases-loop-before l = at l.takes l.e - both_shares l.sharing.shares l.e
