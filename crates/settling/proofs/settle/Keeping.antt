-- What settling keeps: after a route that was found, and after a search that found none. Assumes nothing.
use mathlib.Core.Path.{◌≡◌, ap, ◌∙◌}
use mathlib.Core.Logic.{⊎_elim}
use mathlib.Core.List.{List}
use mathlib.Core.Bool.{Bool, false}
use Prim.Native.Nat.{ℕ, ◌*◌, ◌/◌, ◌<◌}
use native.Mathlib.Nat.{eq-zero-or-pos}
use native.Mathlib.Omega.{arith}
use Rattle.arrays.specs.At.{at}
use Rattle.routes.specs.Marked.{Marked, Clear}
use Rattle.routes.specs.State.{State, state, Grown, BothIn, both_shares}
use Rattle.routes.specs.Search.{NoRoute, Moved, FromConstraint}
use Rattle.settling.specs.Settle.{Kept, Onward}
use Rattle.routes.proofs.Sums.{counted_here, counted_off}
use Rattle.routes.proofs.Region.{goes_earlier}
use Rattle.routes.proofs.Moving.{bounded_moved, bounded_same, same_load}

-- the marks of s, with the shares and rooms of u: what is left of a search whose marks are dropped
abbrev pub dropped : State → State → State
dropped s u = state s.objects s.constraints u.shares u.room

pub onward_then : {m : ℕ} {ends takes : List ℕ} {s t u : State} → Onward m ends takes s t → Onward m ends takes t u → Onward m ends takes s u
onward_then g h = record {
  loads = λ v. h.loads v ∙ g.loads v;
  done = λ e b d. h.done e b (g.done e b d);
}

module _ {m e : ℕ} {ends takes : List ℕ} {s u : State} (kept : Kept m ends takes s) (is : e < m) (left : both_shares s.shares e < at takes e) where
  module _ (clear : Clear s.constraints e) (moved : Moved m e ends s u) where
    off : (x : ℕ) → Marked s.constraints x → both_shares u.shares x ≡ both_shares s.shares x
    off x h = omega (arith, moved.both_shares_are x, counted_off e x 1 (λ q. absurd (omega (arith, ap (λ (y : ℕ). at s.constraints y) q))))

    same_share : (k : ℕ) → k < 2 * m → Marked s.objects (at ends k) → 0 < at u.shares k → 0 < at s.shares k
    same_share k b h p = omega (arith, moved.kept k b h)

    pub kept_moved : Kept m ends takes (dropped s u)
    kept_moved = record {
      bounded = bounded_moved kept.bounded moved;
      fits = λ x b. grind (arith, moved.both_shares_are x, counted_here, counted_off, kept.fits x b);
      closed = kept.closed;
      full = λ v h. omega (arith, moved.rooms v, kept.full v h);
      goes_on = λ k b h p. kept.goes_on k b h (same_share k b h p);
      least = λ S starts goes. kept.least S
          (λ x b h l. starts x b h (omega (arith, off x h)))
          (λ k b h inside p. goes k b h inside (omega (arith, moved.kept k b h)));
    }

    pub onward_moved : Onward m ends takes s (dropped s u)
    onward_moved = record {
      loads = moved.loads;
      done = λ x b d l. d (omega (arith, moved.both_shares_are x));
    }

  module _ {found : Bool} {count : ℕ} (after : FromConstraint m e ends s u found count) (failed : found ≡ false) where
    no_route : NoRoute m ends (λ S. BothIn ends S e) s u
    no_route = after.searched.no_route failed

    grown : Grown s u
    grown = after.searched.grown

    same_both : (x : ℕ) → both_shares u.shares x ≡ both_shares s.shares x
    same_both x = ap (λ (l : List ℕ). both_shares l x) no_route.unmoved.shares

    same_room : (v : ℕ) → at u.room v ≡ at s.room v
    same_room v = ap (λ (l : List ℕ). at l v) no_route.unmoved.room

    same_share_of : (k : ℕ) → at u.shares k ≡ at s.shares k
    same_share_of k = ap (λ (l : List ℕ). at l k) no_route.unmoved.shares

    pub kept_no_route : Kept m ends takes u
    kept_no_route = record {
      bounded = bounded_same m ends s u no_route.unmoved kept.bounded;
      fits = λ x b. omega (arith, same_both x, kept.fits x b);
      closed = λ x b h i q. grind (arith, no_route.closed x, grown.objects (at ends i), kept.closed x b);
      full = λ v h. grind (arith, same_room v, no_route.full v, kept.full v);
      goes_on = λ k b h p. grind (arith, same_share_of k, no_route.goes_on k b, grown.constraints (k / 2), kept.goes_on k b);
      least = λ S starts goes v h. ⊎_elim
          (λ z. no_route.least S goes (starts e is after.here (omega (arith, same_both e))) v z h)
          (λ p. kept.least S
          (λ x b y l. starts x b (grown.constraints x y) (omega (arith, same_both x)))
          (goes_earlier m ends s u S grown no_route.unmoved.shares goes) v p)
          (eq-zero-or-pos (at s.objects v));
    }

    pub onward_no_route : Onward m ends takes s u
    onward_no_route = record {
      loads = same_load m ends s u no_route.unmoved;
      done = λ x b d l. grown.constraints x (d (omega (arith, same_both x)));
    }
