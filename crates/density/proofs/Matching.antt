-- Numbers matched one to one: a matching read the other way, the same numbers, and sums in the other numbers. Assumes nothing.
use mathlib.Core.Path.{◌≡◌, refl, sym, ◌∙◌, ap, subst}
use mathlib.Core.Bool.{Bool}
use Prim.Native.Nat.{ℕ, ◌<◌}
use lib.Dec.{eqb, eqb→eq}
use Rattle.density.specs.Sum.{sum, counted}
use Rattle.density.specs.Listing.{Matching}
use Rattle.density.proofs.Tests.{same_test, eq→eqb}
use Rattle.density.proofs.Sums.{sum_same, sum_swap, sum_one}

pub matching_back : {n k : ℕ} {to from : ℕ → ℕ} → Matching n k to from → Matching k n from to
matching_back m = record { to_below = m.from_below; from_below = m.to_below; from_to = m.to_from; to_from = m.from_to }

pub matching_same : {n k : ℕ} → k ≡ n → Matching n k (λ v. v) (λ v. v)
matching_same e =
    record {
      to_below = λ v h. subst (λ (x : ℕ). v < x) (sym e) h;
      from_below = λ v h. subst (λ (x : ℕ). v < x) e h;
      from_to = λ v _. refl;
      to_from = λ v _. refl;
    }

module _ (n k : ℕ) (to from : ℕ → ℕ) (m : Matching n k to from) where
  -- a number is matched with another exactly if the other is matched back with it
  pub matched_test : (v w : ℕ) → v < n → w < k → eqb (to v) w ≡ eqb (from w) v
  matched_test v w lv lw =
      same_test (eqb (to v) w) (eqb (from w) v)
      (λ t. eq→eqb (from w) v (ap from (sym (eqb→eq (to v) w t)) ∙ m.from_to v lv))
      (λ t. eq→eqb (to v) w (ap to (sym (eqb→eq (from w) v t)) ∙ m.to_from w lw))

  -- of a sum over n, only what is matched with w counts
  pub sum_matched : (f : ℕ → ℕ) (w : ℕ) → w < k → sum n (λ v. counted (eqb (to v) w) (f v)) ≡ f (from w)
  sum_matched f w lw =
      sum_same n (λ v. counted (eqb (to v) w) (f v)) (λ v. counted (eqb (from w) v) (f v))
      (λ v lv. ap (λ (b : Bool). counted b (f v)) (matched_test v w lv lw))
      ∙ sum_one n (from w) f (m.from_below w lw)

  -- a sum may be taken in the other numbers
  pub sum_match : (f : ℕ → ℕ) → sum k f ≡ sum n (λ v. f (to v))
  sum_match f =
      sum_same k f (λ w. sum n (λ v. counted (eqb (to v) w) (f w))) (λ w lw. sym (sum_matched (λ _. f w) w lw))
      ∙ sum_swap k n (λ w v. counted (eqb (to v) w) (f w))
      ∙ sum_same n (λ v. sum k (λ w. counted (eqb (to v) w) (f w))) (λ v. f (to v)) (λ v lv. sum_one k (to v) f (m.to_below v lv))
