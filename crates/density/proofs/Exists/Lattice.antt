-- Two sets, what they share and what they make together. What both hold, and what they share and make together hold: the second is
-- never less. So two greatest sets share a greatest set. Assumes nothing.
use mathlib.Core.Path.{◌≡◌, refl, sym, ◌∙◌, subst, subst₂}
use mathlib.Core.Logic.{◌⊎◌, inl, inr}
use mathlib.Core.Bool.{Bool, true, false, ◌&&◌, ◌||◌}
use Prim.Native.Nat.{ℕ, ◌+◌, ◌≤◌}
use native.Mathlib.Omega.{arith}
use lib.Dec.{T}
use lib.IntN.{ℤ}
use lib.Signed.{◌≤ℤ◌}
use Rattle.density.specs.Sum.{counted}
use Rattle.density.specs.Net.{Net, Set, holds}
use Rattle.density.specs.Density.{taken_by, free, density}
use Rattle.density.specs.Top.{Reaches, Bound}
use Rattle.density.proofs.Tests.{and_both, or_left, or_right, tested}
use Rattle.density.proofs.Sums.{sum_same, sum_le, sum_add, counted_yes, counted_no}
use Rattle.density.proofs.Integers.{cross_of_le, cross_of_eq, eq_of_cross}
use Rattle.density.proofs.Holding.{taken_at, free_at, end_in, ends_in}

abbrev pub meet : Set → Set → Set
meet S R v = S v && R v

abbrev join : Set → Set → Set
join S R v = S v || R v

module _ (d : Net) (S R : Set) where
  holds_meet : (e : ℕ) → T (holds d S e) → T (holds d R e) → T (holds d (meet S R) e)
  holds_meet e s r =
      ends_in d (meet S R) e (λ i. and_both (S (d.end i e)) (R (d.end i e)) (end_in d S e s i) (end_in d R e r i))

  holds_left : (e : ℕ) → T (holds d S e) → T (holds d (join S R) e)
  holds_left e s = ends_in d (join S R) e (λ i. or_left (S (d.end i e)) (R (d.end i e)) (end_in d S e s i))

  holds_right : (e : ℕ) → T (holds d R e) → T (holds d (join S R) e)
  holds_right e r = ends_in d (join S R) e (λ i. or_right (S (d.end i e)) (R (d.end i e)) (end_in d R e r i))

  -- at one constraint
  taken_at_lem : (e : ℕ) → taken_at d S e + taken_at d R e ≤ taken_at d (meet S R) e + taken_at d (join S R) e
  taken_at_lem e = go (tested (holds d S e)) (tested (holds d R e))
    where
      all : (Q : Set) → T (holds d Q e) → taken_at d Q e ≡ d.takes e
      all Q = counted_yes (holds d Q e) (d.takes e)

      nothing : (Q : Set) → (T (holds d Q e) → ⊥) → taken_at d Q e ≡ 0
      nothing Q = counted_no (holds d Q e) (d.takes e)

      go : T (holds d S e) ⊎ (T (holds d S e) → ⊥) → T (holds d R e) ⊎ (T (holds d R e) → ⊥)
          → taken_at d S e + taken_at d R e ≤ taken_at d (meet S R) e + taken_at d (join S R) e
      go (inl s) (inl r) = omega (arith, all S s, all R r, all (meet S R) (holds_meet e s r), all (join S R) (holds_left e s))
      go (inl s) (inr r) = omega (arith, all S s, nothing R r, all (join S R) (holds_left e s))
      go (inr s) (inl r) = omega (arith, nothing S s, all R r, all (join S R) (holds_right e r))
      go (inr s) (inr r) = omega (arith, nothing S s, nothing R r)

  taken_super : taken_by d S + taken_by d R ≤ taken_by d (meet S R) + taken_by d (join S R)
  unfolding taken_by
  taken_super =
      subst₂ ◌≤◌ (sum_add m (taken_at d S) (taken_at d R)) (sum_add m (taken_at d (meet S R)) (taken_at d (join S R)))
      (sum_le m (λ e. taken_at d S e + taken_at d R e) (λ e. taken_at d (meet S R) e + taken_at d (join S R) e) (λ e _. taken_at_lem e))
    where
      m : ℕ
      m = d.constraints

  free_even : free d S + free d R ≡ free d (meet S R) + free d (join S R)
  unfolding free
  free_even =
      sym (sum_add n (free_at d S) (free_at d R))
      ∙ sum_same n (λ v. free_at d S v + free_at d R v) (λ v. free_at d (meet S R) v + free_at d (join S R) v)
      (λ v _. at (S v) (R v) (d.weight v))
      ∙ sum_add n (free_at d (meet S R)) (free_at d (join S R))
    where
      n : ℕ
      n = d.objects

      at : (p r : Bool) (w : ℕ) → counted p w + counted r w ≡ counted (p && r) w + counted (p || r) w
      at true true w = refl
      at true false w = omega arith
      at false true w = refl
      at false false w = refl

  -- two sets that reach the top density of c share a set that reaches it
  pub meet_reaches : (c : ℕ) (t : ℤ) → Bound d c t → Reaches d c t S → Reaches d c t R → Reaches d c t (meet S R)
  unfolding density
  meet_reaches c t bound s r =
      record {
        holding = both;
        density_is =
            eq_of_cross (taken_by d (meet S R)) (free d (meet S R)) (taken_by d S) (free d S)
            (omega (arith, taken_super, free_even, equal, under (meet S R) both, under (join S R) (holds_left c s.holding)))
            ∙ s.density_is;
      }
    where
      both : T (holds d (meet S R) c)
      both = holds_meet c s.holding r.holding

      equal : taken_by d S + free d R ≡ taken_by d R + free d S
      equal = cross_of_eq (taken_by d S) (free d S) (taken_by d R) (free d R) (s.density_is ∙ sym r.density_is)

      under : (Q : Set) → T (holds d Q c) → taken_by d Q + free d S ≤ taken_by d S + free d Q
      under Q h =
          cross_of_le (taken_by d Q) (free d Q) (taken_by d S) (free d S)
          (subst (λ (z : ℤ). density d Q ≤ℤ z) (sym s.density_is) (bound.no_denser Q h))
