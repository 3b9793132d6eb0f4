-- Differences of naturals are compared by cross sums: a - b is at most c - d exactly if a + d is at most c + b.
-- So everything about density is shown over ℕ and carried to ℤ here. Assumes nothing.
use mathlib.Core.Path.{◌≡◌, refl, sym, ◌∙◌, ap, subst, subst₂}
use mathlib.Core.Logic.{◌⊎◌, inl, inr}
use mathlib.Core.Bool.{Bool, true, false, not, cond}
use Prim.Native.Nat.{ℕ, zero, suc, ◌+◌, ◌-◌, ◌≤◌}
use native.Mathlib.Nat.{le_antisymm}
use native.Mathlib.Omega.{arith}
use borrow.Author.Tests.{ltb-true, ltb-false}
use lib.Dec.{T, ltb, leb→le, le→leb}
use lib.IntN.{ℤ, pos, negsuc, sub_ℕ, ◌-ℤ◌}
use lib.Signed.{◌≤ℤ◌, ◌<ℤ◌, lt_z, lt_z_yes, lt_z_no, ≤ℤ_refl, <ℤ-≤ℤ_trans, clash_ℤ}

-- a - b as antt has it: the sign, and how far from 0
pub data Cut (a b : ℕ) : Type 0 where
  up : (p : ℕ) → a ≡ b + p → sub_ℕ a b ≡ pos p → Cut a b
  down : (p : ℕ) → a + suc p ≡ b → sub_ℕ a b ≡ negsuc p → Cut a b

pub cut : (a b : ℕ) → Cut a b
cut a b = go (ltb a b) refl
  where
    go : (t : Bool) → ltb a b ≡ t → Cut a b
    go true e = down (b - suc a) (omega (arith, ltb-true a b e)) (ap (λ (t : Bool). cond t (negsuc (b - suc a)) (pos (a - b))) e)
    go false e = up (a - b) (omega (arith, ltb-false a b e)) (ap (λ (t : Bool). cond t (negsuc (b - suc a)) (pos (a - b))) e)

pos_le : {p q : ℕ} → p ≤ q → pos p ≤ℤ pos q
pos_le {p} {q} h = record { le = le→leb p q h }

le_cut : {a b c d : ℕ} → Cut a b → Cut c d → a + d ≤ c + b → sub_ℕ a b ≤ℤ sub_ℕ c d
le_cut (up p e r) (up q f s) h = subst₂ ◌≤ℤ◌ (sym r) (sym s) (pos_le (omega arith))
le_cut (up p e r) (down q f s) h = absurd (omega arith)
le_cut (down p e r) (up q f s) h = subst₂ ◌≤ℤ◌ (sym r) (sym s) (record { le = tt })
le_cut (down p e r) (down q f s) h = subst₂ ◌≤ℤ◌ (sym r) (sym s) (record { le = le→leb q p (omega arith) })

un_cut : {a b c d : ℕ} → Cut a b → Cut c d → sub_ℕ a b ≤ℤ sub_ℕ c d → a + d ≤ c + b
un_cut (up p e r) (up q f s) h = omega (arith, leb→le p q (subst₂ ◌≤ℤ◌ r s h).le)
un_cut (up p e r) (down q f s) h = absurd (subst₂ ◌≤ℤ◌ r s h).le
un_cut (down p e r) (up q f s) h = omega arith
un_cut (down p e r) (down q f s) h = omega (arith, leb→le q p (subst₂ ◌≤ℤ◌ r s h).le)

eq_cut : {a b c d : ℕ} → Cut a b → Cut c d → a + d ≡ c + b → sub_ℕ a b ≡ sub_ℕ c d
eq_cut (up p e r) (up q f s) h = r ∙ ap pos (omega arith) ∙ sym s
eq_cut (up p e r) (down q f s) h = absurd (omega arith)
eq_cut (down p e r) (up q f s) h = absurd (omega arith)
eq_cut (down p e r) (down q f s) h = r ∙ ap negsuc (omega arith) ∙ sym s

module _ (a b c d : ℕ) where
  pub le_of_cross : a + d ≤ c + b → sub_ℕ a b ≤ℤ sub_ℕ c d
  le_of_cross = le_cut (cut a b) (cut c d)

  pub cross_of_le : sub_ℕ a b ≤ℤ sub_ℕ c d → a + d ≤ c + b
  cross_of_le = un_cut (cut a b) (cut c d)

  pub eq_of_cross : a + d ≡ c + b → sub_ℕ a b ≡ sub_ℕ c d
  eq_of_cross = eq_cut (cut a b) (cut c d)

pub cross_of_eq : (a b c d : ℕ) → sub_ℕ a b ≡ sub_ℕ c d → a + d ≡ c + b
cross_of_eq a b c d e =
    le_antisymm (cross_of_le a b c d (subst (λ (z : ℤ). sub_ℕ a b ≤ℤ z) e (≤ℤ_refl (sub_ℕ a b))))
    (cross_of_le c d a b (subst (λ (z : ℤ). z ≤ℤ sub_ℕ a b) e (≤ℤ_refl (sub_ℕ a b))))

-- two integers are in order one way or the other
pub lt_or_le : (x y : ℤ) → (x <ℤ y) ⊎ (y ≤ℤ x)
lt_or_le x y = go (lt_z x y) refl
  where
    go : (t : Bool) → lt_z x y ≡ t → (x <ℤ y) ⊎ (y ≤ℤ x)
    go true e = inl (lt_z_yes (subst T (sym e) tt))
    go false e = inr (lt_z_no (subst (λ (t : Bool). T (not t)) (sym e) tt))

-- a - b, by how far it is from 0
pub sub_up : (a b p : ℕ) → a ≡ b + p → sub_ℕ a b ≡ pos p
sub_up a b p e = go (cut a b)
  where
    go : Cut a b → sub_ℕ a b ≡ pos p
    go (up q f r) = r ∙ ap pos (omega arith)
    go (down q f r) = absurd (omega arith)

pub sub_down : (a b p : ℕ) → a + suc p ≡ b → sub_ℕ a b ≡ negsuc p
sub_down a b p e = go (cut a b)
  where
    go : Cut a b → sub_ℕ a b ≡ negsuc p
    go (up q f r) = absurd (omega arith)
    go (down q f r) = r ∙ ap negsuc (omega arith)

-- every integer is a difference of naturals
pub record Difference (z : ℤ) : Type 0 where
  pub more : ℕ
  pub less : ℕ
  pub is : z ≡ sub_ℕ more less

pub difference : (z : ℤ) → Difference z
difference (pos n) = record { more = n; less = 0; is = sym (sub_up n 0 n (omega arith)) }
difference (negsuc n) = record { more = 0; less = suc n; is = sym (sub_down 0 (suc n) n (omega arith)) }

pub ≤ℤ-antisym : (x y : ℤ) → x ≤ℤ y → y ≤ℤ x → x ≡ y
≤ℤ-antisym x y h k = go (difference x) (difference y)
  where
    go : Difference x → Difference y → x ≡ y
    go p q =
        p.is
        ∙ eq_of_cross p.more p.less q.more q.less
        (le_antisymm (cross_of_le p.more p.less q.more q.less (subst₂ ◌≤ℤ◌ p.is q.is h))
        (cross_of_le q.more q.less p.more p.less (subst₂ ◌≤ℤ◌ q.is p.is k)))
        ∙ sym q.is

-- (a - b) - w
pub sub_less : (a b w : ℕ) → sub_ℕ a b -ℤ pos w ≡ sub_ℕ a (b + w)
sub_less a b w = go (cut a b) w
  where
    go : Cut a b → (w : ℕ) → sub_ℕ a b -ℤ pos w ≡ sub_ℕ a (b + w)
    go (up p e r) zero = ap (λ (z : ℤ). z -ℤ pos 0) r ∙ sym (sub_up a (b + 0) (p + 0) (omega arith))
    go (up p e r) (suc k) = ap (λ (z : ℤ). z -ℤ pos (suc k)) r ∙ eq_of_cross p (suc k) a (b + suc k) (omega arith)
    go (down p e r) zero = ap (λ (z : ℤ). z -ℤ pos 0) r ∙ eq_of_cross 0 (suc p) a (b + 0) (omega arith)
    go (down p e r) (suc k) = ap (λ (z : ℤ). z -ℤ pos (suc k)) r ∙ sym (sub_down a (b + suc k) (suc (p + k)) (omega arith))

pub ≤ℤ-trans : {x y z : ℤ} → x ≤ℤ y → y ≤ℤ z → x ≤ℤ z
≤ℤ-trans {x} {y} {z} h k = go (lt_or_le z x)
  where
    go : (z <ℤ x) ⊎ (x ≤ℤ z) → x ≤ℤ z
    go (inl l) = clash_ℤ (<ℤ-≤ℤ_trans l h) k
    go (inr r) = r
