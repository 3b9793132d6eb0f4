-- Laws of what a test counts, and of finite sums. Assumes nothing.
use mathlib.Core.Path.{◌≡◌, refl, sym, ◌∙◌, ap, ap₂}
use mathlib.Core.Logic.{◌≢◌}
use mathlib.Core.Bool.{Bool, true, false, ◌&&◌, and_comm}
use Prim.Native.Nat.{ℕ, zero, suc, ◌+◌, ◌*◌, ◌≤◌, ◌<◌}
use native.Mathlib.Nat.{le_refl, suc-mul}
use native.Mathlib.Omega.{arith}
use native.Mathlib.Decide.{ℕ_discrete, dec_lt}
use borrow.Author.Tests.{eq-eqb, ne_eqb}
use lib.Dec.{T, eqb}
use Rattle.density.specs.Sum.{sum, counted}

pub counted_yes : (b : Bool) (x : ℕ) → T b → counted b x ≡ x
counted_yes true x t = refl
counted_yes false x t = absurd t

pub counted_no : (b : Bool) (x : ℕ) → (T b → ⊥) → counted b x ≡ 0
counted_no true x t = absurd (t tt)
counted_no false x t = refl

pub counted_some : (b : Bool) (x : ℕ) → 0 < counted b x → T b
counted_some true x h = tt
counted_some false x h = omega arith

pub counted_le : (b : Bool) (x : ℕ) → counted b x ≤ x
counted_le true x = le_refl x
counted_le false x = omega arith

pub counted_add : (b : Bool) (x y : ℕ) → counted b (x + y) ≡ counted b x + counted b y
counted_add true x y = refl
counted_add false x y = refl

pub counted_both : (a b : Bool) (x : ℕ) → counted a (counted b x) ≡ counted (a && b) x
counted_both true b x = refl
counted_both false b x = refl

pub counted_swap : (a b : Bool) (x : ℕ) → counted a (counted b x) ≡ counted b (counted a x)
counted_swap true b x = refl
counted_swap false true x = refl
counted_swap false false x = refl

pub counted_comm : (a b : Bool) (x : ℕ) → counted (a && b) x ≡ counted (b && a) x
counted_comm a b x = ap (λ (t : Bool). counted t x) (and_comm a b)

-- ---- sums

-- terms that agree below k have one sum
pub sum_same : (k : ℕ) (f g : ℕ → ℕ) → ((i : ℕ) → i < k → f i ≡ g i) → sum k f ≡ sum k g
unfolding sum
sum_same zero f g h = refl
sum_same (suc k) f g h =
    ap₂ (λ (a b : ℕ). a + b) (sum_same k f g (λ i l. h i (omega arith))) (h k (omega arith))

pub sum_le : (k : ℕ) (f g : ℕ → ℕ) → ((i : ℕ) → i < k → f i ≤ g i) → sum k f ≤ sum k g
unfolding sum
sum_le zero f g h = omega arith
sum_le (suc k) f g h = omega (arith, sum_le k f g (λ i l. h i (omega arith)), h k (omega arith))

pub sum_add : (k : ℕ) (f g : ℕ → ℕ) → sum k (λ i. f i + g i) ≡ sum k f + sum k g
unfolding sum
sum_add zero f g = refl
sum_add (suc k) f g = omega (arith, sum_add k f g)

-- k terms of at most w
pub sum_most : (k w : ℕ) (f : ℕ → ℕ) → ((i : ℕ) → i < k → f i ≤ w) → sum k f ≤ k * w
unfolding sum
sum_most zero w f h = omega arith
sum_most (suc k) w f h = omega (arith, sum_most k w f (λ i l. h i (omega arith)), h k (omega arith), suc-mul k w)

pub sum_zero : (k : ℕ) (f : ℕ → ℕ) → ((i : ℕ) → i < k → f i ≡ 0) → sum k f ≡ 0
unfolding sum
sum_zero zero f h = refl
sum_zero (suc k) f h = omega (arith, sum_zero k f (λ i l. h i (omega arith)), h k (omega arith))

-- where f is at most g everywhere, what g i has over f i shows in the sums
pub sum_gap : (k : ℕ) (f g : ℕ → ℕ) → ((i : ℕ) → i < k → f i ≤ g i) → (i : ℕ) → i < k → sum k f + g i ≤ sum k g + f i
unfolding sum
sum_gap zero f g h i l = absurd (omega arith)
sum_gap (suc k) f g h i l = go (ℕ_discrete i k) (sum_gap k f g (λ j m. h j (omega arith)) i)
  where
    go : Dec (i ≡ k) → (i < k → sum k f + g i ≤ sum k g + f i) → sum k f + f k + g i ≤ sum k g + g k + f i
    go (yes e) rest = omega (arith, sum_le k f g (λ j m. h j (omega arith)), ap f e, ap g e)
    go (no e) rest = omega (arith, rest (omega arith), h k (omega arith))

-- the order of two sums can be exchanged
pub sum_swap : (k l : ℕ) (f : ℕ → ℕ → ℕ) → sum k (λ i. sum l (f i)) ≡ sum l (λ j. sum k (λ i. f i j))
unfolding sum
sum_swap zero l f = sym (sum_zero l (λ _. 0) (λ i _. refl))
sum_swap (suc k) l f =
    ap (λ (x : ℕ). x + sum l (f k)) (sum_swap k l f) ∙ sym (sum_add l (λ j. sum k (λ i. f i j)) (f k))

pub counted_sum : (b : Bool) (k : ℕ) (f : ℕ → ℕ) → counted b (sum k f) ≡ sum k (λ i. counted b (f i))
counted_sum true k f = refl
counted_sum false k f = sym (sum_zero k (λ _. 0) (λ i _. refl))

-- a sum with one term: that of index i
pub sum_one : (k i : ℕ) (f : ℕ → ℕ) → i < k → sum k (λ j. counted (eqb i j) (f j)) ≡ f i
unfolding sum
sum_one zero i f l = absurd (omega arith)
sum_one (suc k) i f l = go (ℕ_discrete i k) (sum_one k i f)
  where
    other : (j : ℕ) → i ≢ j → counted (eqb i j) (f j) ≡ 0
    other j n = ap (λ (b : Bool). counted b (f j)) (ne_eqb i j n)

    go : Dec (i ≡ k) → (i < k → sum k (λ j. counted (eqb i j) (f j)) ≡ f i)
        → sum k (λ j. counted (eqb i j) (f j)) + counted (eqb i k) (f k) ≡ f i
    go (yes e) rest =
        omega (
          arith,
          sum_zero k (λ j. counted (eqb i j) (f j)) (λ j m. other j (λ q. omega arith)),
          ap (λ (b : Bool). counted b (f k)) (eq-eqb i k e),
          ap f e,
        )
    go (no n) rest = omega (arith, rest (omega arith), other k n)

-- x stands at a alone, and is counted where the test holds at a
pub sum_at : (n a x : ℕ) (p : ℕ → Bool) → a < n → sum n (λ v. counted (p v) (counted (eqb a v) x)) ≡ counted (p a) x
sum_at n a x p l =
    sum_same n (λ v. counted (p v) (counted (eqb a v) x)) (λ v. counted (eqb a v) (counted (p v) x)) (λ v _. counted_swap (p v) (eqb a v) x)
    ∙ sum_one n a (λ v. counted (p v) x) l

-- a term is at most the sum, and a sum that is not 0 has a term that is not
pub term_le : (k : ℕ) (f : ℕ → ℕ) (i : ℕ) → i < k → f i ≤ sum k f
term_le k f i l = omega (arith, sum_gap k (λ _. 0) f (λ _ _. omega arith) i l, sum_zero k (λ _. 0) (λ _ _. refl))

pub some_term : (k : ℕ) (f : ℕ → ℕ) → 0 < sum k f → (i : ℕ) × (i < k) × (0 < f i)
unfolding sum
some_term zero f h = absurd (omega arith)
some_term (suc k) f h = go (dec_lt 0 (f k)) (some_term k f)
  where
    go : Dec (0 < f k) → (0 < sum k f → (i : ℕ) × (i < k) × (0 < f i)) → (i : ℕ) × (i < suc k) × (0 < f i)
    go (yes p) rest = (k, omega arith, p)
    go (no n) rest = let r = rest (omega arith) in (r.0, omega (arith, r.1), r.2)
