-- An array that a loop fills from its front, one value a turn. Assumes nothing.
use mathlib.Core.Path.{◌≡◌, ◌∙◌}
use mathlib.Core.List.{List}
use Prim.Native.Nat.{ℕ, ◌+◌, ◌<◌}
use native.Mathlib.Omega.{arith}
use lib.ListN.{get_or, set, length-set, replicate}
use lib.Seq.{get_or-set_same, get_or-set_other}
use borrow.Author.Count.{below_more}
use Rattle.std.proofs.lemmas.List.{length-replicate}
use Rattle.drawing.specs.WeightArrays.{Filled}
use Rattle.drawing.proofs.Fronts.{blank_there}

-- an array that holds nothing yet, and one value more
pub filled_none : (long : ℕ) (f : ℕ → ℕ) → Filled long 0 f (replicate long 0)
filled_none long f = record { size = length-replicate long 0; values = λ i h. absurd (omega arith); zeros = λ i h. blank_there 0 long i }

pub filled_more : {long : ℕ} (k : ℕ) (f : ℕ → ℕ) (l : List ℕ) (v : ℕ) → Filled long k f l → k < long → v ≡ f k → Filled long (k + 1) f (set l k v)
filled_more k f l v so limit is = record {
  size = length-set l k v ∙ so.size;
  values =
      below_more (λ i. get_or (set l k v) i 0 ≡ f i) k (λ i h. get_or-set_other l k i v 0 (λ e. omega arith) ∙ so.values i h)
      (get_or-set_same l k v 0 (omega (arith, so.size)) ∙ is);
  zeros = λ i h. get_or-set_other l k i v 0 (λ e. omega arith) ∙ so.zeros i (omega arith);
}
