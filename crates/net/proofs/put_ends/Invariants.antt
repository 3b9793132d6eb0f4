-- The loop of `put_ends`: the ends of the constraints so far stand at their places. Assumes nothing.
use Rattle.net.specs.NetFor.{EndsUpTo}
use Rattle.net.proofs.put_ends.Given as goal

abbrev pub invariant-loop-e : goal.invariant-loop-e
invariant-loop-e l = EndsUpTo l.entries l.e l.ends
