-- `settling::answer::answer` meets its contract: the laws beside it, one after another. Assumes nothing.
use Rattle.std.proofs.Common.{SFits, w32, arith, rules}
use Rattle.std.proofs.lemmas.Int.{to_z-of_z}
use Rattle.settling.proofs.answer.AfterRelease.{kept_released}
use Rattle.settling.proofs.answer.Solves.{claim_solves}
use Rattle.settling.proofs.answer.answer.Goals as goal

pub settle-marks-requires : goal.settle-marks-requires
settle-marks-requires c =
    let from = c.args.from.now in
    kept_released c.release-2.ensures from.marks from.net.takes
    (kept_released c.release.ensures from.marks from.net.takes (rw (from.same_count, from.same_ends) from.spread.kept))

pub returns : goal.returns
returns c =
    let from = c.args.from.now in
    let fits : SFits w32 c.claimed.result = search rules in
    rw to_z-of_z
    (claim_solves from.net.fair c.requires.is c.requires.some from.spread
    (rw (from.same_count, from.same_ends) at c.release.ensures)
    (rw (from.same_count, from.same_ends) at c.release-2.ensures)
    (omega (arith, c.ends_of-both.ensures), omega (arith, c.ends_of-both.ensures))
    (rw (from.same_count, from.same_ends) at c.settle-marks.ensures)
    c.claimed.ensures.is c.claimed.ensures.low c.claimed.ensures.high)
