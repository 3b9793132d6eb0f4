-- A net renumbered and a net whose constraints are gathered are listings of one drawing, and what a constraint becomes corresponds to it.
-- Assumes nothing.
use mathlib.Core.Path.{◌≡◌, sym, ◌∙◌, ap, ap₂}
use mathlib.Core.Bool.{Bool, ◌&&◌}
use mathlib.Core.Logic.{inl, inr}
use Prim.Native.Nat.{ℕ, ◌+◌, ◌<◌}
use native.Mathlib.Omega.{arith}
use lib.Dec.{eqb}
use Rattle.density.specs.Sum.{sum, counted}
use Rattle.density.specs.Net.{Net, Proper, Side, first, second}
use Rattle.density.specs.Listing.{Matching, goes, Between, on_pair, pair_takes, Listings, Corresponds}
use Rattle.density.specs.Change.{Renumbered, Gathered}
use Rattle.density.proofs.Tests.{eqb_comm}
use Rattle.density.proofs.Sums.{sum_same, sum_add, sum_swap, sum_at, counted_sum, counted_comm}
use Rattle.density.proofs.Matching.{matching_same, matched_test, sum_matched}

-- ---- renumbering

unfoldable pub renumbered_listings : {d b : Net} → Proper d → Renumbered d b → Listings d b
unfolding pair_takes
renumbered_listings {d} {b} ok r =
    record {
      to = r.to;
      from = r.from;
      matched = r.matched;
      same_weight = r.same_weight;
      same_pairs = same;
    }
  where
    -- ends are matched with the same objects as before
    same_end : (i : Side) (e u : ℕ) → e < d.constraints → u < d.objects → eqb (b.end i e) (r.to u) ≡ eqb (d.end i e) u
    same_end i e u le hu =
        ap (λ (x : ℕ). eqb x (r.to u)) (r.renamed i e le)
        ∙ matched_test d.objects b.objects r.to r.from r.matched (d.end i e) (r.to u) (ok.named i e le)
        (r.matched.to_below u hu)
        ∙ ap (λ (x : ℕ). eqb x (d.end i e)) (r.matched.from_to u hu)
        ∙ eqb_comm u (d.end i e)

    same_goes : (e u v : ℕ) → e < d.constraints → u < d.objects → v < d.objects → goes b e (r.to u) (r.to v) ≡ goes d e u v
    same_goes e u v le hu hv = ap₂ ◌&&◌ (same_end first e u le hu) (same_end second e v le hv)

    each : (u v : ℕ) → u < d.objects → v < d.objects
        → (e : ℕ) → e < d.constraints → on_pair b (r.to u) (r.to v) e ≡ on_pair d u v e
    each u v hu hv e le =
        ap₂ ◌+◌ (ap₂ counted (same_goes e u v le hu hv) (r.same_takes e le)) (ap₂ counted (same_goes e v u le hv hu) (r.same_takes e le))

    same : (u v : ℕ) → u < d.objects → v < d.objects → pair_takes b (r.to u) (r.to v) ≡ pair_takes d u v
    same u v hu hv =
        ap (λ (m : ℕ). sum m (on_pair b (r.to u) (r.to v))) r.as_many
        ∙ sum_same d.constraints (on_pair b (r.to u) (r.to v)) (on_pair d u v) (each u v hu hv)

pub renumbered_corresponds : {d b : Net} (ok : Proper d) (r : Renumbered d b) (e : ℕ) → e < d.constraints
    → Corresponds (renumbered_listings ok r) e e
unfolding renumbered_listings
renumbered_corresponds ok r e le = inl (r.renamed first e le, r.renamed second e le)

-- ---- gathering

-- what a constraint with ends x, y and weight q takes on the pair u, v
abbrev takes_on : ℕ → ℕ → ℕ → ℕ → ℕ → ℕ
takes_on u v x y q = counted (eqb x u && eqb y v) q + counted (eqb x v && eqb y u) q

takes_on_exchanged : (u v x y q : ℕ) → takes_on u v y x q ≡ takes_on u v x y q
takes_on_exchanged u v x y q = omega (arith, counted_comm (eqb y u) (eqb x v) q, counted_comm (eqb y v) (eqb x u) q)

-- constraint f between x and y takes the same on a pair, whichever of them is its first end
between_takes : (b : Net) (f u v q : ℕ) {x y : ℕ} → Between b f x y → takes_on u v (b.end first f) (b.end second f) q ≡ takes_on u v x y q
between_takes b f u v q (inl (p, r)) = ap₂ (λ (x y : ℕ). takes_on u v x y q) p r
between_takes b f u v q {x} {y} (inr (p, r)) = ap₂ (λ (x y : ℕ). takes_on u v x y q) p r ∙ takes_on_exchanged u v x y q

-- where each constraint of b has one that goes into it, and weighs the same, it takes their sum
pub one_into_each : (d b : Net) (to from : ℕ → ℕ) → Matching d.constraints b.constraints to from
    → ((e : ℕ) → e < d.constraints → b.takes (to e) ≡ d.takes e)
    → (f : ℕ) → f < b.constraints → b.takes f ≡ sum d.constraints (λ e. counted (eqb (to e) f) (d.takes e))
one_into_each d b to from m same f lf =
    sym (ap b.takes (m.to_from f lf))
    ∙ same (from f) (m.from_below f lf)
    ∙ sym (sum_matched d.constraints b.constraints to from m d.takes f lf)

module _ {d b : Net} (r : Gathered d b) where
  -- sums over the constraints of b are sums over those of d that go into them
  gathered_sum : (p : ℕ → Bool) → sum b.constraints (λ f. counted (p f) (b.takes f)) ≡ sum d.constraints (λ e. counted (p (r.into e)) (d.takes e))
  gathered_sum p =
      sum_same k (λ f. counted (p f) (b.takes f)) (λ f. sum m (λ e. counted (p f) (counted (eqb (r.into e) f) (d.takes e))))
      (λ f lf. ap (counted (p f)) (r.summed f lf) ∙ counted_sum (p f) m (λ e. counted (eqb (r.into e) f) (d.takes e)))
      ∙ sum_swap k m (λ f e. counted (p f) (counted (eqb (r.into e) f) (d.takes e)))
      ∙ sum_same m (λ e. sum k (λ f. counted (p f) (counted (eqb (r.into e) f) (d.takes e)))) (λ e. counted (p (r.into e)) (d.takes e))
      (λ e le. sum_at k (r.into e) (d.takes e) p (r.into_below e le))
    where
      k : ℕ
      k = b.constraints

      m : ℕ
      m = d.constraints

  pub gathered_pairs : (u v : ℕ) → pair_takes b u v ≡ pair_takes d u v
  unfolding pair_takes
  gathered_pairs u v =
      sum_add b.constraints (λ f. counted (goes b f u v) (b.takes f)) (λ f. counted (goes b f v u) (b.takes f))
      ∙ ap₂ ◌+◌ (gathered_sum (λ f. goes b f u v)) (gathered_sum (λ f. goes b f v u))
      ∙ sym (sum_add m (λ e. counted (goes b (r.into e) u v) (d.takes e)) (λ e. counted (goes b (r.into e) v u) (d.takes e)))
      ∙ sum_same m (λ e. takes_on u v (b.end first (r.into e)) (b.end second (r.into e)) (d.takes e)) (on_pair d u v)
      (λ e le. between_takes b (r.into e) u v (d.takes e) (r.same_pair e le))
    where
      m : ℕ
      m = d.constraints

  unfoldable pub gathered_listings : Listings d b
  gathered_listings =
      record {
        to = λ v. v;
        from = λ v. v;
        matched = matching_same r.as_many;
        same_weight = r.same_weight;
        same_pairs = λ u v _ _. gathered_pairs u v;
      }

  pub gathered_corresponds : (e : ℕ) → e < d.constraints → Corresponds gathered_listings e (r.into e)
  unfolding gathered_listings
  gathered_corresponds e le = r.same_pair e le
