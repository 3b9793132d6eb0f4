-- Of all sets of n objects that pass a test, one has the greatest score. Assumes nothing.
use mathlib.Core.Path.{◌≡◌, ap₂, subst}
use mathlib.Core.Bool.{Bool, true, false}
use mathlib.Core.Logic.{◌⊎◌, inl, inr}
use Prim.Native.Nat.{ℕ, zero, suc, ◌≤◌}
use native.Mathlib.Nat.{le_refl, le_trans}
use native.Mathlib.Decide.{dec_le}
use native.Mathlib.Omega.{arith}
use lib.Dec.{T}
use Rattle.density.specs.Sum.{counted}
use Rattle.density.specs.Net.{Set, Alike}
use Rattle.density.proofs.Tests.{tested}
use Rattle.density.proofs.Sums.{counted_yes, counted_no}
use Rattle.density.proofs.EverySet.{empty_set, put, From, from_put, from_zero, low_part, low_part_alike, low_part_from}

-- a set with the greatest score of those that are B from k on
record Greatest (k : ℕ) (f : Set → ℕ) (B : Set) : Type 0 where
  set : Set
  most : (S : Set) → From k S B → f S ≤ f set

greatest : (k : ℕ) (f : Set → ℕ) (B : Set) → Greatest k f B
greatest zero f B = record { set = B; most = λ S h. subst (λ (R : Set). f S ≤ f R) (from_zero S B h) (le_refl (f S)) }
greatest (suc k) f B = pick (greatest k f (put B k true)) (greatest k f (put B k false))
  where
    pick : Greatest k f (put B k true) → Greatest k f (put B k false) → Greatest (suc k) f B
    pick x y = go (dec_le (f x.set) (f y.set))
      where
        either : (M : Set) → f x.set ≤ f M → f y.set ≤ f M → (S : Set) (b : Bool) → From k S (put B k b) → f S ≤ f M
        either M l r S true h = le_trans (x.most S h) l
        either M l r S false h = le_trans (y.most S h) r

        go : Dec (f x.set ≤ f y.set) → Greatest (suc k) f B
        go (yes l) =
            record { set = y.set; most = λ S h. either y.set l (le_refl (f y.set)) S (S k) (from_put k S B h) }
        go (no l) =
            record { set = x.set; most = λ S h. either x.set (le_refl (f x.set)) (omega arith) S (S k) (from_put k S B h) }

-- among the sets that pass a test, one with the greatest score
pub record Best (p : Set → Bool) (f : Set → ℕ) : Type 0 where
  pub set : Set
  pub passes : T (p set)
  pub most : (S : Set) → T (p S) → f S ≤ f set

-- where test and score look below n alone and some set passes
pub best : (n : ℕ) (p : Set → Bool) (f : Set → ℕ) → ((S R : Set) → Alike n S R → p S ≡ p R) → ((S R : Set) → Alike n S R → f S ≡ f R)
    → (S : Set) → T (p S) → Best p f
best n p f looks scores S₀ t₀ = go (greatest n score empty_set)
  where
    score : Set → ℕ
    score S = counted (p S) (suc (f S))

    passed : (M : Set) → T (p M) → score M ≡ suc (f M)
    passed M = counted_yes (p M) (suc (f M))

    alike : (S : Set) → score S ≡ score (low_part n S)
    alike S =
        ap₂ (λ (b : Bool) (x : ℕ). counted b (suc x)) (looks S (low_part n S) (low_part_alike n S))
        (scores S (low_part n S) (low_part_alike n S))

    go : Greatest n score empty_set → Best p f
    go g = pass (tested (p g.set))
      where
        under : (S : Set) → T (p S) → suc (f S) ≤ score g.set
        under S t = omega (arith, passed S t, alike S, g.most (low_part n S) (low_part_from n S))

        pass : T (p g.set) ⊎ (T (p g.set) → ⊥) → Best p f
        pass (inl t) = record { set = g.set; passes = t; most = λ S s. omega (arith, under S s, passed g.set t) }
        pass (inr n) = absurd (omega (arith, under S₀ t₀, counted_no (p g.set) (suc (f g.set)) n))
