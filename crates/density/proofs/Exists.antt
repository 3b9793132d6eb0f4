-- For every constraint of every proper net the answer set exists. 01, 'Density': "That it exists is part of the work."
-- Among the finitely many sets that hold c one is densest, and among the densest one has fewest objects: two densest sets share a
-- densest set, so the smallest lies inside every other. No code is needed for it. Assumes nothing.
mod BestSet
mod Lattice
use mathlib.Core.Path.{refl, ap, ap₂}
use mathlib.Core.Bool.{Bool, true, false, not, ◌&&◌}
use Prim.Native.Nat.{ℕ, ◌+◌, ◌-◌, ◌≤◌, ◌<◌}
use native.Mathlib.Nat.{le_refl}
use native.Mathlib.Omega.{arith}
use lib.Dec.{T, eqb, eqb→eq}
use Rattle.density.specs.Sum.{sum, counted}
use Rattle.density.specs.Net.{Net, Proper, Set, holds, Inside}
use Rattle.density.specs.Density.{taken_by, free, density}
use Rattle.density.specs.Top.{Reaches, Bound, HasAnswerSet}
use Rattle.density.proofs.Tests.{and_left, and_right, and_both, eq→eqb}
use Rattle.density.proofs.Sums.{sum_same, sum_le, sum_gap, counted_le}
use Rattle.density.proofs.Integers.{le_of_cross, eq_of_cross, cross_of_eq}
use Rattle.density.proofs.Holding.{free_at, holds_alike, taken_alike, free_alike}
use Rattle.density.proofs.Exists.BestSet.{Best, best}
use Rattle.density.proofs.Exists.Lattice.{meet, meet_reaches}

-- how many objects a set leaves out, and all that objects weigh
abbrev outside : Set → ℕ → ℕ
outside S v = counted (not (S v)) 1

left_out : Net → Set → ℕ
left_out d S = sum d.objects (outside S)

all_weigh : Net → ℕ
all_weigh d = sum d.objects d.weight

free_le : (d : Net) (S : Set) → free d S ≤ all_weigh d
unfolding free all_weigh
free_le d S = sum_le d.objects (free_at d S) d.weight (λ v _. counted_le (S v) (d.weight v))

module _ (d : Net) (ok : Proper d) (c : ℕ) (l : c < d.constraints) where
  abbrev everything : Set
  everything v = true

  -- the densest
  densest : Best (λ S. holds d S c) (λ S. taken_by d S + (all_weigh d - free d S))
  densest =
      best d.objects (λ S. holds d S c) (λ S. taken_by d S + (all_weigh d - free d S)) (λ S R h. holds_alike d ok S R h c l)
      (λ S R h. ap₂ (λ (x y : ℕ). x + (all_weigh d - y)) (taken_alike d ok S R h) (free_alike d ok S R h))
      everything
      tt

  abbrev D : Set
  D = densest.set

  bound : Bound d c (density d D)
  unfolding density
  bound =
      record {
        no_denser =
            λ S h.
            le_of_cross (taken_by d S) (free d S) (taken_by d D) (free d D) (omega (arith, densest.most S h, free_le d S, free_le d D));
      }

  -- a set that holds c and is as dense
  abbrev ties : Set → Bool
  ties S = eqb (taken_by d S + free d D) (taken_by d D + free d S)

  abbrev as_dense : Set → Bool
  as_dense S = holds d S c && ties S

  reaches : (S : Set) → T (as_dense S) → Reaches d c (density d D) S
  unfolding density
  reaches S t =
      record {
        holding = and_left (holds d S c) (ties S) t;
        density_is =
            eq_of_cross (taken_by d S) (free d S) (taken_by d D) (free d D)
            (eqb→eq (taken_by d S + free d D) (taken_by d D + free d S) (and_right (holds d S c) (ties S) t));
      }

  reached : (S : Set) → Reaches d c (density d D) S → T (as_dense S)
  unfolding density
  reached S r =
      and_both (holds d S c) (ties S) r.holding
      (eq→eqb (taken_by d S + free d D) (taken_by d D + free d S)
      (cross_of_eq (taken_by d S) (free d S) (taken_by d D) (free d D) r.density_is))

  -- the smallest of them
  smallest : Best as_dense (left_out d)
  unfolding left_out
  smallest =
      best d.objects as_dense (left_out d)
      (λ S R h.
      ap₂ ◌&&◌ (holds_alike d ok S R h c l)
      (ap₂ (λ (x y : ℕ). eqb (x + free d D) (taken_by d D + y)) (taken_alike d ok S R h) (free_alike d ok S R h)))
      (λ S R h. sum_same d.objects (outside S) (outside R) (λ v lv. ap (λ (b : Bool). counted (not b) 1) (h v lv)))
      D
      (reached D (record { holding = densest.passes; density_is = refl }))

  abbrev M : Set
  M = smallest.set

  -- the smallest lies inside every other, since it shares a densest set with it
  inside : (S : Set) → Reaches d c (density d D) S → Inside d M S
  unfolding left_out
  inside S r v lv =
      kept (S v) (M v)
      (omega (arith, sum_gap d.objects (outside M) (outside (meet S M)) (λ u _. more (S u) (M u)) v lv, fewest))
    where
      fewest : sum d.objects (outside (meet S M)) ≤ sum d.objects (outside M)
      fewest = smallest.most (meet S M) (reached (meet S M) (meet_reaches d S M c (density d D) bound r (reaches M smallest.passes)))

      more : (p q : Bool) → counted (not q) 1 ≤ counted (not (p && q)) 1
      more true q = le_refl (counted (not q) 1)
      more false true = omega arith
      more false false = omega arith

      kept : (p q : Bool) → counted (not (p && q)) 1 ≤ counted (not q) 1 → T q → T p
      kept true q h t = tt
      kept false true h t = omega arith
      kept false false h t = t

  pub answer_exists : HasAnswerSet d c
  answer_exists =
      record { top = density d D; set = M; answer = record { reached = reaches M smallest.passes; greatest = bound; least = inside } }
