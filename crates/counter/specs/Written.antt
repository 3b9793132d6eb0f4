-- A block and a sheet, from the values to the bytes written over the front of a buffer. Assumes nothing.
use Rattle.std.specs.Prelude.{◌≡◌, List, ℕ, ◌<◌, length, Option, Some, None}
use Rattle.codes.specs.declared.Answer.{Answer}
use Rattle.codes.specs.declared.Answer.TheVariants as answer
use Rattle.limits.specs.Limits.{most_objects}
use Rattle.density.specs.Net.{Side}
use Rattle.arrays.specs.Arrays.{shares_in}
use Rattle.routes.specs.Marked.{members}
use Rattle.counter.specs.declared.block.Block.{Block}
use Rattle.counter.specs.Block.{block}
use Rattle.checker.specs.Sheet.{sheet_size, sheet_in}
use Rattle.counter.specs.Outcome.{over}

-- the bytes of a block
abbrev pub block_bytes : Block → List ℕ
block_bytes b = block most_objects b.constraint b.density (members b.marks.objects)

-- a block where one was found, written; else none is answered, and nothing is written
abbrev pub FindingWritten : Option Block → List ℕ → Answer → List ℕ → Type 0
FindingWritten (Some b) before r after = (r ≡ answer.Given) × (after ≡ over (block_bytes b) before)
FindingWritten None before r after = (r ≡ answer.None) × (after ≡ before)

-- the bytes of the shares of m constraints, written over the front
pub record SheetWritten (m : ℕ) (shares before after : List ℕ) : Type 0 where
  pub bytes : List ℕ
  pub long : length bytes ≡ sheet_size m
  pub shares_are : (i : Side) (e : ℕ) → e < m → sheet_in bytes i e ≡ shares_in shares i e
  pub after_is : after ≡ over bytes before
