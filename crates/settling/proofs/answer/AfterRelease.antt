-- After a release: what each object receives, and that what settling keeps is kept. Assumes nothing.
use mathlib.Core.Path.{◌≡◌, refl, sym, subst}
use mathlib.Core.Logic.{◌≢◌, ⊎_elim}
use mathlib.Core.List.{List}
use Prim.Native.Nat.{ℕ, ◌+◌, ◌*◌, ◌/◌, ◌<◌, ◌≤◌}
use native.Mathlib.Omega.{arith}
use lib.Dec.{eqb}
use Rattle.density.specs.Sum.{counted}
use Rattle.density.proofs.Sums.{sum_same, sum_zero}
use Rattle.arrays.specs.At.{at}
use Rattle.routes.specs.declared.search.Marks.{Marks}
use Rattle.routes.specs.declared.search.Sharing.{Sharing}
use Rattle.routes.specs.State.{state, seen_state, both_shares, load}
use Rattle.settling.specs.Settle.{Kept}
use Rattle.settling.specs.Release.{Released}
use Rattle.std.proofs.lemmas.Bool.{cases_eq}
use Rattle.routes.proofs.Places.{by_place}
use Rattle.routes.proofs.Sums.{counted_here, counted_off}

module _ {m v : ℕ} {ends : List ℕ} {s t : Sharing} (h : Released m v ends s t) where
  pub load_gone : load m ends t.shares v ≡ 0
  unfolding load
  load_gone = sum_zero (2 * m) (λ i. counted (eqb (at ends i) v) (at t.shares i))
      (λ i b. grind (arith, counted_here, counted_off, h.gone i b))

  pub load_stays : (u : ℕ) → u ≢ v → load m ends t.shares u ≡ load m ends s.shares u
  unfolding load
  load_stays u n = sum_same (2 * m) (λ i. counted (eqb (at ends i) u) (at t.shares i)) (λ i. counted (eqb (at ends i) u) (at s.shares i))
      (λ i b. grind (arith, counted_off, h.stay i))

  share_less : (k : ℕ) → k < 2 * m → at t.shares k ≤ at s.shares k
  share_less k b = grind (arith, h.gone k b, h.stay k)

  both_less : (e : ℕ) → e < m → both_shares t.shares e ≤ both_shares s.shares e
  both_less e b = omega (arith, share_less (2 * e) (omega arith), share_less (2 * e + 1) (omega arith))

  -- the constraint at a place of v that had a share there has weight left
  both_falls : (k : ℕ) → k < 2 * m → at ends k ≡ v → 0 < at s.shares k → both_shares t.shares (k / 2) < both_shares s.shares (k / 2)
  both_falls k b is =
      by_place (λ x. at t.shares x ≡ 0 → 0 < at s.shares x → both_shares t.shares (k / 2) < both_shares s.shares (k / 2)) (k / 2) refl
      (λ z p. omega (arith, share_less (2 * (k / 2) + 1) (omega arith))) (λ z p. omega (arith, share_less (2 * (k / 2)) (omega arith))) (h.gone k b is)

  pub kept_released : (marks : Marks) (takes : List ℕ) → Kept m ends takes (seen_state marks s) → Kept m ends takes (seen_state marks t)
  kept_released marks takes kept = subst (λ (l : List ℕ). Kept m ends takes (state marks.objects l t.shares t.room)) (sym h.stuck) (record {
    bounded = λ i b. grind (arith, load_gone, h.no_room, load_stays (at ends i), h.rooms (at ends i), kept.bounded i b);
    fits = λ e b. omega (arith, both_less e b, kept.fits e b);
    closed = kept.closed;
    full = λ u y. grind (arith, h.no_room, h.rooms u, kept.full u y);
    goes_on = λ k b y p. kept.goes_on k b y (omega (arith, share_less k b));
    least = λ S starts goes. kept.least S
        (λ e b y l. starts e b y (omega (arith, both_less e b)))
        (λ k b y inside p. ⊎_elim
        (λ e. starts (k / 2) (omega arith) (kept.goes_on k b y p) (omega (arith, both_falls k b e p, kept.fits (k / 2) (omega arith))))
        (λ n. goes k b y inside (omega (arith, h.stay k n)))
        (cases_eq (at ends k) v));
  })
