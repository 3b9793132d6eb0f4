-- What counting a net answers. Assumes nothing.
use Rattle.std.specs.Prelude.{◌≡◌, ℕ, ℤ, Option, Some, None}
use Rattle.density.specs.Top.{NoneAt, LowestAbove}
use Rattle.arrays.specs.declared.NetArrays.{NetArrays}
use Rattle.arrays.specs.Held.{net_held}
use Rattle.settling.specs.declared.answer.Solution.{Solution}
use Rattle.settling.specs.Solved.{Solved}
use Rattle.counter.specs.declared.block.Block.{Block}

-- top density, answer set and sheet of constraint c of the net
abbrev pub SolvedIn : NetArrays → ℕ → Solution → Type 0
SolvedIn a c top =
    Solved a.objects a.constraints c a.ends a.weights a.takes top.marks.objects top.shares top.density

-- the block of constraint c, of which the answer is known
abbrev pub block_from : ℕ → Solution → Block
block_from c top = record { constraint = c; density = top.density; marks = top.marks }

-- the block of constraint c of the net
pub record BlockIn (a : NetArrays) (c : ℕ) (b : Block) : Type 0 where
  pub top : Solution
  pub solved : SolvedIn a c top
  pub block_is : b ≡ block_from c top

-- the block of the lowest-numbered constraint whose top density is above K
pub record LowestIn (a : NetArrays) (k : ℤ) (b : Block) : Type 0 where
  pub lowest : LowestAbove (net_held a) k b.constraint
  pub block_in : BlockIn a b.constraint b

-- it was found, or there is none
abbrev pub Sought : NetArrays → ℤ → Option Block → Type 0
Sought a k (Some b) = LowestIn a k b
Sought a k None = NoneAt (net_held a) k
