-- `reader::fill` meets its contract: behind an object, and behind a constraint, reading stands where the next record starts. Assumes nothing.
use native.Mathlib.Omega.{arith}
use Rattle.records.proofs.reader.Turn.{behind_object, behind_constraint}
use Rattle.records.proofs.reader.fill.Goals as goal

pub loop-o-preserved-in-Object : goal.loop-o-preserved-in-Object
loop-o-preserved-in-Object c =
    let added = c.in_ok-add_object-in-Object.ensures in
    behind_object c.loop-o.invariant _ _ (rw c.in-Object.is at c.in_ok-o.ensures) added.fault added.added

pub loop-o-smaller-in-Object : goal.loop-o-smaller-in-Object
loop-o-smaller-in-Object c = omega (arith, loop-o-preserved-in-Object c)

pub loop-o-preserved : goal.loop-o-preserved
loop-o-preserved c =
    let added = c.in_ok-add_constraint-in-Constraint.ensures in
    behind_constraint c.loop-o.invariant _ _ (rw c.in-Constraint.is at c.in_ok-o.ensures) added.fault added.added

pub loop-o-smaller : goal.loop-o-smaller
loop-o-smaller c = omega (arith, loop-o-preserved c)
