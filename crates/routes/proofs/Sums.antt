-- Laws of finite sums. Assumes nothing.
use mathlib.Core.Path.{◌≡◌, refl, sym, ap, subst}
use mathlib.Core.Logic.{◌≢◌, ⊎_elim}
use mathlib.Core.Bool.{Bool}
use Prim.Native.Nat.{ℕ, zero, suc, ◌+◌, ◌*◌, ◌<◌}
use native.Mathlib.Nat.{not-suc-le-zero}
use native.Mathlib.Omega.{arith}
use lib.Dec.{eqb}
use borrow.Author.Tests.{eq-eqb, ne_eqb}
use Rattle.density.specs.Sum.{sum, counted}
use Rattle.density.proofs.Sums.{sum_same}
use Rattle.std.proofs.lemmas.Bool.{cases_eq}

pub counted_here : (i v y : ℕ) → i ≡ v → counted (eqb i v) y ≡ y
counted_here i v y e = ap (λ (b : Bool). counted b y) (eq-eqb i v e)

pub counted_off : (i v y : ℕ) → i ≢ v → counted (eqb i v) y ≡ 0
counted_off i v y n = ap (λ (b : Bool). counted b y) (ne_eqb i v n)

-- two sums whose terms differ at i alone
pub sum_differ_at : (k : ℕ) (f g : ℕ → ℕ) (i : ℕ) → i < k → ((x : ℕ) → x ≢ i → f x ≡ g x) → sum k f + g i ≡ sum k g + f i
unfolding sum
sum_differ_at zero f g i l h = absurd (not-suc-le-zero l)
sum_differ_at (suc k) f g i l h =
    ⊎_elim
    (λ e. subst (λ (j : ℕ). sum k f + f k + g j ≡ sum k g + g k + f j) (sym e)
    (omega (arith, sum_same k f g (λ x b. h x (λ q. absurd (omega arith))))))
    (λ n. omega (arith, sum_differ_at k f g i (omega arith) h, h k (λ q. n (sym q))))
    (cases_eq i k)

-- the sum over the places is the sum over the constraints of both places
pub sum_pairs : (m : ℕ) (f : ℕ → ℕ) → sum (2 * m) f ≡ sum m (λ e. f (2 * e) + f (2 * e + 1))
unfolding sum
sum_pairs zero f = refl
sum_pairs (suc m) f =
    let twice : 2 * suc m ≡ suc (suc (2 * m)) = omega arith in
    let next : suc (2 * m) ≡ 2 * m + 1 = omega arith in
    subst (λ (k : ℕ). sum k f ≡ sum m (λ e. f (2 * e) + f (2 * e + 1)) + (f (2 * m) + f (2 * m + 1))) (sym twice)
    (subst (λ (j : ℕ). sum (2 * m) f + f (2 * m) + f (suc (2 * m)) ≡ sum m (λ e. f (2 * e) + f (2 * e + 1)) + (f (2 * m) + f j)) next
    (omega (arith, sum_pairs m f)))
