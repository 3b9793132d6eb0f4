-- The loops of `weigh`: the weights so far stand at their numbers, and from there on zero. Assumes nothing.
use Rattle.limits.specs.Limits.{most_objects, most_constraints}
use Rattle.drawing.specs.Weight.{object_weight, constraint_weight}
use Rattle.drawing.specs.WeightArrays.{Filled}
use Rattle.drawing.proofs.weigh.Given as goal

abbrev pub invariant-loop-i : goal.invariant-loop-i
invariant-loop-i l = Filled most_objects l.i (object_weight l.entries) l.objects

abbrev pub invariant-loop-e : goal.invariant-loop-e
invariant-loop-e l = Filled most_constraints l.e (constraint_weight l.entries) l.constraints
