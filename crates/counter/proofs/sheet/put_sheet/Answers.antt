use mathlib.Core.Path.{◌∙◌}
use Prim.Native.Nat.{◌*◌}
use native.Mathlib.Omega.{arith}
use lib.Seq.{get_or-take}
use Rattle.counter.proofs.sheet.Writing.{one_written}
use Rattle.counter.proofs.sheet.put_sheet.Goals as goal

pub loop-i-preserved : goal.loop-i-preserved
loop-i-preserved c =
    let is = get_or-take (2 * c.args.m) c.args.shares.now c.loop-i.i 0 (omega arith) in
    one_written c.loop-i.invariant (omega arith) (c.from.ensures ∙ is) (rw (c.from.ensures ∙ is) (c.fits-shares c.loop-i.i)) c.put_two.ensures
