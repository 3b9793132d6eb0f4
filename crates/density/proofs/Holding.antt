-- A set holds a constraint exactly if each of its ends is in it; so what a set holds and weighs depends on which objects are in it, and on
-- nothing else. Assumes nothing.
use mathlib.Core.Path.{◌≡◌, ap, ap₂}
use mathlib.Core.Bool.{Bool, ◌&&◌}
use Prim.Native.Nat.{ℕ, ◌<◌}
use lib.Dec.{T}
use lib.IntN.{sub_ℕ}
use Rattle.density.specs.Sum.{counted}
use Rattle.density.specs.Net.{Net, Proper, Set, Alike, Side, first, second, holds}
use Rattle.density.specs.Density.{taken_by, free, density}
use Rattle.density.proofs.Tests.{and_left, and_right, and_both}
use Rattle.density.proofs.Sums.{sum_same}

-- what the constraint e takes if S holds it, and what the object v weighs if it is in S
abbrev pub taken_at : Net → Set → ℕ → ℕ
taken_at d S e = counted (holds d S e) (d.takes e)

abbrev pub free_at : Net → Set → ℕ → ℕ
free_at d S v = counted (S v) (d.weight v)

module _ (d : Net) (S : Set) (e : ℕ) where
  pub end_in : T (holds d S e) → (i : Side) → T (S (d.end i e))
  end_in h first = and_left (S (d.end first e)) (S (d.end second e)) h
  end_in h second = and_right (S (d.end first e)) (S (d.end second e)) h

  pub ends_in : ((i : Side) → T (S (d.end i e))) → T (holds d S e)
  ends_in h = and_both (S (d.end first e)) (S (d.end second e)) (h first) (h second)

module _ (d : Net) (ok : Proper d) (S R : Set) (alike : Alike d.objects S R) where
  pub holds_alike : (e : ℕ) → e < d.constraints → holds d S e ≡ holds d R e
  holds_alike e l = ap₂ ◌&&◌ (alike (d.end first e) (ok.named first e l)) (alike (d.end second e) (ok.named second e l))

  pub taken_alike : taken_by d S ≡ taken_by d R
  unfolding taken_by
  taken_alike =
      sum_same d.constraints (taken_at d S) (taken_at d R) (λ e l. ap (λ (b : Bool). counted b (d.takes e)) (holds_alike e l))

  pub free_alike : free d S ≡ free d R
  unfolding free
  free_alike =
      sum_same d.objects (free_at d S) (free_at d R) (λ v l. ap (λ (b : Bool). counted b (d.weight v)) (alike v l))

  pub density_alike : density d S ≡ density d R
  unfolding density
  density_alike = ap₂ sub_ℕ taken_alike free_alike
