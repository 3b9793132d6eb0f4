use native.Mathlib.Omega.{arith}
use borrow.Author.Rules.{rules}
use mir.Syntax.{w32}
use mir.Val.{SFits}
use mir.Facts.{to_z-of_z}
use Rattle.counter.proofs.count.Passing.{one_more, found_here, none_found}
use Rattle.counter.proofs.count.lowest_above.Goals as goal

pub returns-then-top-k : goal.returns-then-top-k
returns-then-top-k c =
    let short : SFits w32 c.answer-top.result.density = search rules in
    found_here c.loop-c.invariant c.base-from.ensures c.answer-top.ensures short c.if-top-k.true (omega arith) c.block_of.ensures (to_z-of_z c.ranges.k)

pub loop-c-preserved : goal.loop-c-preserved
loop-c-preserved c =
    let short : SFits w32 c.answer-top.result.density = search rules in
    one_more c.loop-c.invariant c.base-from.ensures c.answer-top.ensures short c.if-top-k.false

pub returns : goal.returns
returns c = none_found c.loop-c.invariant (omega arith) (to_z-of_z c.ranges.k)
