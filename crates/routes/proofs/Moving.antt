-- Laws of a route that was found. Assumes nothing.
use mathlib.Core.Path.{◌≡◌, sym, ap, ap₂, subst, ◌∙◌}
use mathlib.Core.List.{List}
use Prim.Native.Nat.{ℕ, ◌+◌, ◌-◌, ◌*◌, ◌/◌, ◌<◌, ◌≤◌}
use native.Mathlib.Omega.{arith}
use lib.ListN.{length, set, length-set}
use lib.Dec.{eqb}
use Rattle.density.specs.Sum.{counted}
use Rattle.limits.specs.Limits.{most_objects, most_constraints, most_ends}
use Rattle.arrays.specs.At.{at}
use Rattle.routes.specs.Marked.{Clear}
use Rattle.routes.specs.State.{State, state, Sized, Unmoved, Grown, Bounded, both_shares, load}
use Rattle.routes.specs.Search.{Moved, lowered, raised, shifted}
use Rattle.routes.proofs.Sums.{counted_here, counted_off}
use Rattle.arrays.proofs.Stores.{at_set_here, at_set_off}
use Rattle.routes.proofs.Places.{load_raised, load_lowered, both_raised, both_lowered, share_le_load}

-- v receives one share more at the place i, from its room
abbrev pub used_room : ℕ → ℕ → State → State
used_room i v s = state s.objects s.constraints (raised i s.shares) (set s.room v (at s.room v - 1))

pub moved_used_room : (m i v : ℕ) (ends : List ℕ) (s : State) → Sized s → m ≤ most_constraints → i < 2 * m → at ends i ≡ v → v < most_objects
    → Clear s.objects v → 0 < at s.room v → Moved m (i / 2) ends s (used_room i v s)
moved_used_room m i v ends s z few b is small clear some =
    let inside : i < length s.shares = omega (arith, z.shares) in
    let inroom : v < length s.room = omega (arith, z.room) in
    record {
      both_shares_are = λ x. both_raised s.shares i x inside;
      loads = λ x. grind (arith, load_raised m ends s.shares i x b inside, counted_here, counted_off, at_set_here, at_set_off);
      rooms = λ x. grind (arith, at_set_here, at_set_off);
      kept = λ k l h. at_set_off s.shares i (at s.shares i + 1) k
          (λ e. absurd (omega (arith, ap (λ (y : ℕ). at s.objects (at ends y)) e, ap (λ (y : ℕ). at s.objects y) is)));
    }

-- a share goes from the place k to the place i
abbrev pub passed : ℕ → ℕ → State → State
passed k i s = state s.objects s.constraints (shifted k i s.shares) s.room

-- what each object receives and has room for is the same where no share has moved
pub same_load : (m : ℕ) (ends : List ℕ) (s t : State) → Unmoved s t → (v : ℕ) → load m ends t.shares v + at t.room v ≡ load m ends s.shares v + at s.room v
same_load m ends s t same v = ap₂ (λ (a b : List ℕ). load m ends a v + at b v) same.shares same.room

-- a search that went on from more marks, with the same shares and rooms, moved for the earlier marks too
pub moved_after : {m e : ℕ} {ends : List ℕ} {s t u : State} → Unmoved s t → Grown s t → Moved m e ends t u → Moved m e ends s u
moved_after {m} {e} {ends} {s} {t} {u} same grown h = record {
  both_shares_are = λ x. h.both_shares_are x ∙ ap (λ (l : List ℕ). both_shares l x + counted (eqb e x) 1) same.shares;
  loads = λ v. h.loads v ∙ same_load m ends s t same v;
  rooms = λ v. subst (λ (a : List ℕ). at u.room v ≤ at a v) same.room (h.rooms v);
  kept = λ k l y. h.kept k l (grown.objects (at ends k) y) ∙ ap (λ (a : List ℕ). at a k) same.shares;
}

-- the constraint k/2 gave one share more, and the one at k moves to the place i of the same object, which was not marked
pub moved_passed : (m i k v : ℕ) (ends : List ℕ) (s u : State) → length u.shares ≡ most_ends → m ≤ most_constraints → i < 2 * m → k < 2 * m → at ends i ≡ v → at ends k ≡ v
    → Clear s.objects v → 0 < at u.shares k → Moved m (k / 2) ends s u → Moved m (i / 2) ends s (passed k i u)
moved_passed m i k v ends s u long few bi bk ei ek clear some h =
    let ini : i < length (lowered k u.shares) = omega (arith, length-set u.shares k (at u.shares k - 1)) in
    let ink : k < length u.shares = omega arith in
    record {
      both_shares_are = λ x. omega (arith, h.both_shares_are x, both_lowered u.shares k x ink some, both_raised (lowered k u.shares) i x ini);
      loads = λ x. omega (
        arith,
        h.loads x,
        load_lowered m ends u.shares k x bk ink some,
        load_raised m ends (lowered k u.shares) i x bi ini,
        ap (λ (y : ℕ). counted (eqb y x) 1) (ei ∙ sym ek),
      );
      rooms = h.rooms;
      kept = λ q b y.
          at_set_off (lowered k u.shares) i (at (lowered k u.shares) i + 1) q
          (λ e. absurd (omega (arith, ap (λ (z : ℕ). at s.objects (at ends z)) e, ap (λ (z : ℕ). at s.objects z) ei)))
          ∙ at_set_off u.shares k (at u.shares k - 1) q
          (λ e. absurd (omega (arith, ap (λ (z : ℕ). at s.objects (at ends z)) e, ap (λ (z : ℕ). at s.objects z) ek)))
          ∙ h.kept q b y;
    }

-- a share is at most what its object receives
pub share_small : (m i : ℕ) (ends : List ℕ) (s : State) → Bounded m ends s → i < 2 * m → at s.shares i ≤ 255
share_small m i ends s h b = omega (arith, h i b, share_le_load m ends s.shares i b)

pub bounded_moved : {m e : ℕ} {ends : List ℕ} {s u : State} → Bounded m ends s → Moved m e ends s u → Bounded m ends u
bounded_moved {ends = ends} h moved i b = omega (arith, h i b, moved.loads (at ends i))

pub bounded_same : (m : ℕ) (ends : List ℕ) (s t : State) → Unmoved s t → Bounded m ends s → Bounded m ends t
bounded_same m ends s t same h i b = omega (arith, h i b, same_load m ends s t same (at ends i))
