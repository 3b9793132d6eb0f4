-- One drawing, one answer: two listings of one drawing give corresponding constraints the same top density and the same answer set,
-- renumbered, and at each K both have a dense set or neither has. Assumes nothing.
mod Pairs
use mathlib.Core.Path.{◌≡◌, refl, sym, ◌∙◌, ap, ap₂, subst}
use mathlib.Core.Bool.{◌&&◌, and_comm}
use mathlib.Core.Logic.{◌↔◌, ◌⊎◌, inl, inr}
use Prim.Native.Nat.{ℕ, ◌+◌, ◌<◌}
use native.Mathlib.Omega.{arith}
use lib.Dec.{T, eqb, eqb→eq, eqb_refl}
use lib.IntN.{ℤ, sub_ℕ}
use lib.Signed.{◌≤ℤ◌, ◌<ℤ◌}
use Rattle.density.specs.Sum.{sum, counted}
use Rattle.density.specs.Net.{Net, Proper, Set, Alike, Side, first, second, holds}
use Rattle.density.specs.Density.{taken_by, free, density, HasDense}
use Rattle.density.specs.Top.{Reaches, Bound, Top, AnswerSet}
use Rattle.density.specs.Listing.{goes, Between, on_pair, pair_takes, Listings, Corresponds, image, Heavy}
use Rattle.density.proofs.Tests.{and_left, and_right, and_both, tested}
use Rattle.density.proofs.Sums.{sum_same, term_le, some_term, counted_yes, counted_no, counted_some}
use Rattle.density.proofs.Holding.{free_at, holds_alike, density_alike}
use Rattle.density.proofs.Matching.{matching_back, sum_match}
use Rattle.density.proofs.Listing.Pairs.{in_pair, pairs, pairs_same, taken_twice}

-- ---- a listing read the other way, and one after another

unfoldable pub listings_back : {d b : Net} → Listings d b → Listings b d
listings_back {d} {b} l =
    record {
      to = l.from;
      from = l.to;
      matched = matching_back l.matched;
      same_weight = λ v h. sym (l.same_weight (l.from v) (in_d v h)) ∙ ap b.weight (l.matched.to_from v h);
      same_pairs =
          λ u v hu hv.
          sym (l.same_pairs (l.from u) (l.from v) (in_d u hu) (in_d v hv))
          ∙ ap₂ (pair_takes b) (l.matched.to_from u hu) (l.matched.to_from v hv);
    }
  where
    in_d : (v : ℕ) → v < b.objects → l.from v < d.objects
    in_d = l.matched.from_below

unfoldable pub listings_then : {d b a : Net} → Listings d b → Listings b a → Listings d a
listings_then {d} {b} {a} l k =
    record {
      to = λ v. k.to (l.to v);
      from = λ v. l.from (k.from v);
      matched =
          record {
            to_below = λ v h. k.matched.to_below (l.to v) (in_b v h);
            from_below = λ v h. l.matched.from_below (k.from v) (k.matched.from_below v h);
            from_to = λ v h. ap l.from (k.matched.from_to (l.to v) (in_b v h)) ∙ l.matched.from_to v h;
            to_from = λ v h. ap k.to (l.matched.to_from (k.from v) (k.matched.from_below v h)) ∙ k.matched.to_from v h;
          };
      same_weight = λ v h. k.same_weight (l.to v) (in_b v h) ∙ l.same_weight v h;
      same_pairs = λ u v hu hv. k.same_pairs (l.to u) (l.to v) (in_b u hu) (in_b v hv) ∙ l.same_pairs u v hu hv;
    }
  where
    in_b : (v : ℕ) → v < d.objects → l.to v < b.objects
    in_b = l.matched.to_below

-- ---- constraints that correspond

-- a constraint that goes from x to y has these ends
goes_so : (b : Net) (f : ℕ) {x y : ℕ} → T (goes b f x y) → (b.end first f ≡ x) × (b.end second f ≡ y)
goes_so b f {x} {y} t = (
  eqb→eq (b.end first f) x (and_left (eqb (b.end first f) x) (eqb (b.end second f) y) t),
  eqb→eq (b.end second f) y (and_right (eqb (b.end first f) x) (eqb (b.end second f) y) t),
)

pub corresponds_back : {d b : Net} → Proper d → (l : Listings d b) (e f : ℕ) → e < d.constraints → Corresponds l e f
    → Corresponds (listings_back l) f e
unfolding listings_back
corresponds_back {d} {b} ok l e f le cor = go cor
  where
    -- an end of f that an end of e is matched with is matched back with it
    from : (i j : Side) → b.end i f ≡ l.to (d.end j e) → d.end j e ≡ l.from (b.end i f)
    from i j p = sym (ap l.from p ∙ l.matched.from_to (d.end j e) (ok.named j e le))

    go : Corresponds l e f → Between d e (l.from (b.end first f)) (l.from (b.end second f))
    go (inl (p, q)) = inl (from first first p, from second second q)
    go (inr (p, q)) = inr (from second first q, from first second p)

pub corresponds_then : {d b a : Net} (l : Listings d b) (k : Listings b a) (e f g : ℕ) → Corresponds l e f → Corresponds k f g
    → Corresponds (listings_then l k) e g
unfolding listings_then
corresponds_then l k e f g (inl (p, q)) (inl (r, s)) = inl (r ∙ ap k.to p, s ∙ ap k.to q)
corresponds_then l k e f g (inl (p, q)) (inr (r, s)) = inr (r ∙ ap k.to q, s ∙ ap k.to p)
corresponds_then l k e f g (inr (p, q)) (inl (r, s)) = inr (r ∙ ap k.to p, s ∙ ap k.to q)
corresponds_then l k e f g (inr (p, q)) (inr (r, s)) = inl (r ∙ ap k.to q, s ∙ ap k.to p)

-- ---- density

module _ (d b : Net) (okd : Proper d) (okb : Proper b) (l : Listings d b) where
  -- a set of b's objects, in d's numbers
  abbrev back : Set → Set
  back S v = S (l.to v)

  sum_back : (f : ℕ → ℕ) → sum b.objects f ≡ sum d.objects (λ v. f (l.to v))
  sum_back = sum_match d.objects b.objects l.to l.from l.matched

  -- what b's constraints take on the pair that u, v are matched with
  abbrev matched_takes : ℕ → ℕ → ℕ
  matched_takes u v = pair_takes b (l.to u) (l.to v)

  taken_back : (S : Set) → taken_by b S ≡ taken_by d (back S)
  unfolding pairs
  taken_back S = omega (arith, twice)
    where
      n : ℕ
      n = d.objects

      rows : pairs b.objects S (pair_takes b) ≡ pairs n (back S) matched_takes
      rows =
          sum_back (λ u. sum b.objects (in_pair S (pair_takes b) u))
          ∙ sum_same n (λ u. sum b.objects (in_pair S (pair_takes b) (l.to u))) (λ u. sum n (in_pair (back S) matched_takes u))
          (λ u _. sum_back (in_pair S (pair_takes b) (l.to u)))

      twice : taken_by b S + taken_by b S ≡ taken_by d (back S) + taken_by d (back S)
      twice =
          sym (taken_twice b okb S)
          ∙ rows
          ∙ pairs_same n (back S) matched_takes (pair_takes d) l.same_pairs
          ∙ taken_twice d okd (back S)

  free_back : (S : Set) → free b S ≡ free d (back S)
  unfolding free
  free_back S =
      sum_back (free_at b S)
      ∙ sum_same d.objects (λ v. free_at b S (l.to v)) (free_at d (back S)) (λ v h. ap (counted (S (l.to v))) (l.same_weight v h))

  pub density_back : (S : Set) → density b S ≡ density d (back S)
  unfolding density
  density_back S = ap₂ sub_ℕ (taken_back S) (free_back S)

  image_back : (M : Set) → Alike d.objects (back (image l M)) M
  image_back M v h = ap M (l.matched.from_to v h)

  -- ---- corresponding constraints

  -- a set of b holds f exactly if, in d's numbers, it holds e
  holds_back : (S : Set) (e f : ℕ) → Corresponds l e f → holds b S f ≡ holds d (back S) e
  holds_back S e f (inl (p, q)) = ap₂ (λ (x y : ℕ). S x && S y) p q
  holds_back S e f (inr (p, q)) =
      ap₂ (λ (x y : ℕ). S x && S y) p q ∙ and_comm (S (l.to (d.end second e))) (S (l.to (d.end first e)))

  module _ (e f : ℕ) (le : e < d.constraints) (lf : f < b.constraints) (cor : Corresponds l e f) (t : ℤ) where
    pub bound_carries : Bound d e t → Bound b f t
    bound_carries bound =
        record {
          no_denser =
              λ S h.
              subst (λ (z : ℤ). z ≤ℤ t) (sym (density_back S)) (bound.no_denser (back S) (subst T (holds_back S e f cor) h));
        }

    reaches_back : (S : Set) → Reaches b f t S → Reaches d e t (back S)
    reaches_back S r =
        record { holding = subst T (holds_back S e f cor) r.holding; density_is = sym (density_back S) ∙ r.density_is }

    reaches_image : (M : Set) → Reaches d e t M → Reaches b f t (image l M)
    reaches_image M r =
        record {
          holding = subst T (sym (holds_back (image l M) e f cor ∙ holds_alike d okd round M (image_back M) e le)) r.holding;
          density_is = density_back (image l M) ∙ density_alike d okd round M (image_back M) ∙ r.density_is;
        }
      where
        round : Set
        round = back (image l M)

    -- the same top density, and the same answer set renumbered
    pub top_carries : Top d e t → Top b f t
    top_carries top =
        record {
          set = image l top.set;
          reached = reaches_image top.set top.reached;
          greatest = bound_carries top.greatest;
        }

    pub answer_carries : (M : Set) → AnswerSet d e t M → AnswerSet b f t (image l M)
    answer_carries M a =
        record {
          reached = reaches_image M a.reached;
          greatest = bound_carries a.greatest;
          least =
              λ S r v h x.
              subst (λ (u : ℕ). T (S u)) (l.matched.to_from v h)
              (a.least (back S) (reaches_back S r) (l.from v) (l.matched.from_below v h) x);
        }

  -- ---- dense at K

  -- a constraint that takes something has one that corresponds
  pub correspondent : (e : ℕ) → e < d.constraints → 0 < d.takes e → (f : ℕ) × (f < b.constraints) × Corresponds l e f
  unfolding pair_takes
  correspondent e le some = found (some_term b.constraints (on_pair b x y) there)
    where
      u : ℕ
      u = d.end first e

      v : ℕ
      v = d.end second e

      x : ℕ
      x = l.to u

      y : ℕ
      y = l.to v

      here : T (goes d e u v)
      here = and_both (eqb u u) (eqb v v) (eqb_refl u) (eqb_refl v)

      there : 0 < pair_takes b x y
      there =
          omega (
            arith,
            l.same_pairs u v (okd.named first e le) (okd.named second e le),
            term_le d.constraints (on_pair d u v) e le,
            counted_yes (goes d e u v) (d.takes e) here,
          )

      found : (f : ℕ) × (f < b.constraints) × (0 < on_pair b x y f) → (f : ℕ) × (f < b.constraints) × Corresponds l e f
      found (f, lf, takes) = (f, lf, way (tested (goes b f x y)))
        where
          way : T (goes b f x y) ⊎ (T (goes b f x y) → ⊥) → Corresponds l e f
          way (inl t) = inl (goes_so b f t)
          way (inr n) = inr (goes_so b f (counted_some (goes b f y x) (b.takes f) (omega (arith, counted_no (goes b f x y) (b.takes f) n))))

  -- where d has a set dense at K, so has b
  pub dense_carries : Heavy d → (K : ℤ) → HasDense d K → HasDense b K
  dense_carries heavy K h = go (correspondent e h.dense.is (heavy.some_weight e h.dense.is))
    where
      S : Set
      S = h.set

      e : ℕ
      e = h.dense.some

      go : (f : ℕ) × (f < b.constraints) × Corresponds l e f → HasDense b K
      go (f, lf, cor) =
          record {
            set = image l S;
            dense =
                record {
                  above = subst (λ (z : ℤ). K <ℤ z) (sym carried.density_is) h.dense.above;
                  some = f;
                  is = lf;
                  held_by = carried.holding;
                };
          }
        where
          carried : Reaches b f (density d S) (image l S)
          carried =
              reaches_image e f h.dense.is lf cor (density d S) S (record { holding = h.dense.held_by; density_is = refl })

-- at each K two listings of one drawing both have a dense set, or neither has
pub dense_both : (d b : Net) → Proper d → Proper b → Heavy d → Heavy b → Listings d b → (K : ℤ) → HasDense d K ↔ HasDense b K
dense_both d b okd okb hd hb l K = (dense_carries d b okd okb l hd K, dense_carries b d okb okd (listings_back l) hb K)
