-- A test at every set of n objects, which computes: a test that looks at objects below n alone is passed by every set once it is passed
-- by the finitely many sets with no object from n on. Assumes nothing.
use mathlib.Core.Path.{◌≡◌, sym, ◌∙◌, ap, subst, fun_ext}
use mathlib.Core.Bool.{Bool, true, false, cond, ◌&&◌}
use Prim.Native.Nat.{ℕ, zero, suc, ◌≤◌}
use native.Mathlib.Decide.{ℕ_discrete}
use native.Mathlib.Omega.{arith}
use borrow.Author.Tests.{eq-eqb, ne_eqb, lt-ltb, le-ltb}
use lib.Dec.{T, eqb, ltb}
use Rattle.density.specs.Net.{Set, Alike}
use Rattle.density.proofs.Tests.{and_left, and_right}

abbrev pub empty_set : Set
empty_set v = false

-- B with b at k
abbrev pub put : Set → ℕ → Bool → Set
put B k b v = cond (eqb v k) b (B v)

-- S is B from k on
abbrev pub From : ℕ → Set → Set → Type 0
From k S B = (v : ℕ) → k ≤ v → S v ≡ B v

pub from_put : (k : ℕ) (S B : Set) → From (suc k) S B → From k S (put B k (S k))
from_put k S B h v l = go (ℕ_discrete v k)
  where
    go : Dec (v ≡ k) → S v ≡ cond (eqb v k) (S k) (B v)
    go (yes e) = ap S e ∙ sym (ap (λ (b : Bool). cond b (S k) (B v)) (eq-eqb v k e))
    go (no n) = h v (omega arith) ∙ sym (ap (λ (b : Bool). cond b (S k) (B v)) (ne_eqb v k n))

pub from_zero : (S B : Set) → From 0 S B → S ≡ B
from_zero S B h = fun_ext (λ v. h v (omega arith))

-- the objects of S below n
abbrev pub low_part : ℕ → Set → Set
low_part n S v = cond (ltb v n) (S v) false

pub low_part_alike : (n : ℕ) (S : Set) → Alike n S (low_part n S)
low_part_alike n S v l = sym (ap (λ (b : Bool). cond b (S v) false) (lt-ltb v n l))

pub low_part_from : (n : ℕ) (S : Set) → From n (low_part n S) empty_set
low_part_from n S v l = ap (λ (b : Bool). cond b (S v) false) (le-ltb v n l)

-- the test passes at every set that is B from k on
abbrev pub every : ℕ → (Set → Bool) → Set → Bool
every zero p B = p B
every (suc k) p B = every k p (put B k true) && every k p (put B k false)

every_gives : (k : ℕ) (p : Set → Bool) (B : Set) → T (every k p B) → (S : Set) → From k S B → T (p S)
every_gives zero p B t S h = subst (λ (R : Set). T (p R)) (sym (from_zero S B h)) t
every_gives (suc k) p B t S h = go (S k) (from_put k S B h) (λ b. every_gives k p (put B k b))
  where
    go : (b : Bool) → From k S (put B k b)
        → ((b : Bool) → T (every k p (put B k b)) → (S : Set) → From k S (put B k b) → T (p S)) → T (p S)
    go true f rest = rest true (and_left (every k p (put B k true)) (every k p (put B k false)) t) S f
    go false f rest = rest false (and_right (every k p (put B k true)) (every k p (put B k false)) t) S f

-- a test that looks below n alone, passed by every set with no object from n on, is passed by every set
pub every_set : (n : ℕ) (p : Set → Bool) → ((S R : Set) → Alike n S R → p S ≡ p R) → T (every n p empty_set) → (S : Set) → T (p S)
every_set n p look t S =
    subst T (sym (look S (low_part n S) (low_part_alike n S))) (every_gives n p empty_set t (low_part n S) (low_part_from n S))
