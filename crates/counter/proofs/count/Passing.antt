-- Going through the constraints in order: those passed have no top density above K. Assumes nothing.
use mathlib.Core.Path.{◌≡◌, refl, sym, ◌∙◌, ap, subst}
use mathlib.Core.Bool.{true, false}
use Prim.Native.Nat.{ℕ, ◌+◌, ◌<◌, ◌≤◌}
use native.Mathlib.Omega.{arith}
use mir.Syntax.{w32}
use mir.Val.{SFits, to_z, of_z}
use mir.Facts.{to_z-of_z}
use Rattle.std.proofs.lemmas.Int.{ints}
use lib.IntN.{ℤ}
use lib.Signed.{lt_z, ◌≤ℤ◌}
use Rattle.density.specs.Top.{Top, NoneAt}
use Rattle.density.proofs.OneAnswer.{NoneBelow, answer_top, lowest_so, none_up_to}
use Rattle.arrays.specs.declared.NetArrays.{NetArrays}
use Rattle.arrays.specs.Held.{net_held}
use Rattle.settling.specs.declared.answer.Solution.{Solution}
use Rattle.routes.specs.Marked.{members}
use Rattle.counter.specs.declared.block.Block.{Block}
use Rattle.counter.specs.Counting.{SolvedIn, block_from, LowestIn}

-- a signed number of 32 bits as the code reads it back from its bits
abbrev pub again : ℤ → ℤ
again z = to_z w32 (of_z w32 z)

-- no constraint below c has a top density above K
pub record Passed (a : NetArrays) (k : ℤ) (c : ℕ) : Type 0 where
  pub none : NoneBelow (net_held a) k c

pub none_passed : (a : NetArrays) (k : ℤ) → Passed a k 0
none_passed a k = record { none = λ e t l q. absurd (omega arith) }

-- constraint c, of which the answer is known; `from` holds the net, and y is K as the code has it
module _ {a from : NetArrays} {y : ℤ} {c : ℕ} {top : Solution} (passed : Passed a y c) (same : from ≡ a) (solved : SolvedIn from c top)
    (short : SFits w32 top.density) where
  solved_here : SolvedIn a c top
  solved_here = subst (λ (b : NetArrays). SolvedIn b c top) same solved

  density_top : Top (net_held a) c top.density
  density_top = answer_top (net_held a) c top.density (members top.marks.objects) solved_here.answer

  compared : lt_z y top.density ≡ lt_z y (again top.density)
  compared = ap (lt_z y) (sym (to_z-of_z short))

  -- it is not above K either
  pub one_more : lt_z y (again top.density) ≡ false → Passed a y (c + 1)
  one_more e =
      let under : lt_z y top.density ≡ false = compared ∙ e in
      record { none = λ f t l q. none_up_to (net_held a) y c top.density density_top (omega (arith, ints)) passed.none f t (omega arith) q }

  -- it is above K, so it is the lowest
  pub found_here : lt_z y (again top.density) ≡ true → c < a.constraints → {b : Block} → b ≡ block_from c top → {k : ℤ} → y ≡ k → LowestIn a k b
  found_here e l {b} is same_k =
      let above : lt_z y top.density ≡ true = compared ∙ e in
      subst (λ (z : ℤ). LowestIn a z b) same_k
      (subst (LowestIn a y) (sym is)
      (record {
        lowest = lowest_so (net_held a) y c top.density l density_top (omega (arith, ints)) passed.none;
        block_in = record { top = top; solved = solved_here; block_is = refl };
      }))

-- all are passed
pub none_found : {a : NetArrays} {y k : ℤ} {m : ℕ} → Passed a y m → a.constraints ≤ m → y ≡ k → NoneAt (net_held a) k
none_found passed all same = λ e t l q. subst (λ (z : ℤ). t ≤ℤ z) same (passed.none e t (omega arith) q)
