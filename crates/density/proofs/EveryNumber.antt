-- A test at every number below k, which computes. Assumes nothing.
use mathlib.Core.Path.{◌≡◌, refl, sym, ap₂, subst}
use mathlib.Core.Bool.{Bool, true, ◌&&◌}
use Prim.Native.Nat.{ℕ, zero, suc, ◌<◌}
use native.Mathlib.Omega.{arith}
use native.Mathlib.Decide.{ℕ_discrete}
use lib.Dec.{T}
use Rattle.density.proofs.Tests.{and_left, and_right}

-- the test passes at every number below k
abbrev pub below : ℕ → (ℕ → Bool) → Bool
below zero p = true
below (suc k) p = below k p && p k

pub below_gives : (k : ℕ) (p : ℕ → Bool) → T (below k p) → (i : ℕ) → i < k → T (p i)
below_gives zero p t i l = absurd (omega arith)
below_gives (suc k) p t i l = go (ℕ_discrete i k) (below_gives k p (and_left (below k p) (p k) t) i)
  where
    go : Dec (i ≡ k) → (i < k → T (p i)) → T (p i)
    go (yes e) rest = subst (λ (j : ℕ). T (p j)) (sym e) (and_right (below k p) (p k) t)
    go (no n) rest = rest (omega arith)

pub below_same : (k : ℕ) (p q : ℕ → Bool) → ((i : ℕ) → i < k → p i ≡ q i) → below k p ≡ below k q
below_same zero p q h = refl
below_same (suc k) p q h = ap₂ ◌&&◌ (below_same k p q (λ i l. h i (omega arith))) (h k (omega arith))
