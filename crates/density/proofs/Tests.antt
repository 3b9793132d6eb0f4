-- Laws of tests: two joined by 'and', 'or' and 'implies', two that are one, and the test that two numbers are equal. Assumes nothing.
use mathlib.Core.Path.{◌≡◌, refl, sym, subst}
use mathlib.Core.Logic.{◌⊎◌, inl, inr}
use mathlib.Core.Bool.{Bool, true, false, ◌&&◌, ◌||◌}
use Prim.Native.Nat.{ℕ}
use lib.Dec.{T, eqb, eqb→eq, eqb_refl}

pub and_left : (a b : Bool) → T (a && b) → T a
and_left true b t = tt
and_left false b t = t

pub and_right : (a b : Bool) → T (a && b) → T b
and_right true b t = t
and_right false b t = absurd t

pub and_both : (a b : Bool) → T a → T b → T (a && b)
and_both true b t u = u
and_both false b t u = t

pub or_left : (a b : Bool) → T a → T (a || b)
or_left true b t = tt
or_left false b t = absurd t

pub or_right : (a b : Bool) → T b → T (a || b)
or_right true b t = tt
or_right false b t = t

abbrev pub implies : Bool → Bool → Bool
implies true b = b
implies false b = true

pub implied : (a b : Bool) → T (implies a b) → T a → T b
implied true b t u = t
implied false b t u = absurd u

-- a test is passed, or it is not
pub tested : (b : Bool) → T b ⊎ (T b → ⊥)
tested true = inl tt
tested false = inr (λ t. t)

-- two tests that imply each other are one
pub same_test : (a b : Bool) → (T a → T b) → (T b → T a) → a ≡ b
same_test true true f g = refl
same_test true false f g = absurd (f tt)
same_test false true f g = absurd (g tt)
same_test false false f g = refl

pub eq→eqb : (m n : ℕ) → m ≡ n → T (eqb m n)
eq→eqb m n e = subst (λ (k : ℕ). T (eqb m k)) e (eqb_refl m)

pub eqb_comm : (m n : ℕ) → eqb m n ≡ eqb n m
eqb_comm m n = same_test (eqb m n) (eqb n m) (λ t. eq→eqb n m (sym (eqb→eq m n t))) (λ t. eq→eqb m n (sym (eqb→eq n m t)))
