-- From a full object along its chain: what holds at each turn of the walk, and what it comes to. Assumes nothing.
use mathlib.Core.Path.{◌≡◌, sym, subst, ◌∙◌}
use mathlib.Core.Logic.{⊎_elim}
use mathlib.Core.List.{List}
use mathlib.Core.Bool.{Bool, true, false, true≢false, false≢true}
use Prim.Native.Nat.{ℕ, suc, ◌+◌, ◌-◌, ◌*◌, ◌/◌, ◌<◌, ◌≤◌}
use native.Mathlib.Omega.{arith}
use lib.ListN.{length, length-set}
use lib.Dec.{T}
use Rattle.limits.specs.Limits.{most_objects, most_constraints, most_ends}
use Rattle.arrays.specs.At.{at}
use Rattle.routes.specs.Marked.{Marked, Clear}
use Rattle.routes.specs.Chains.{Chained}
use Rattle.routes.specs.State.{State, Sized, Unmoved, Grown, BothIn, Bounded, unmarked}
use Rattle.routes.specs.Search.{ReadyObject, ReadyConstraint, NoRoute, Moved, FromObject, FromConstraint, Shifting, lowered}
use Rattle.routes.proofs.search.AtObject.{Visit, place_small, end_small}
use Rattle.arrays.proofs.Stores.{at_set_here, at_set_off}
use Rattle.routes.proofs.Marking.{mark_object, grown_then, grown_object, unmarked_object, unmarked_le, marked_here}
use Rattle.routes.proofs.Region.{region_then, region_from, region_object}
use Rattle.routes.proofs.AlongChain.{OnChain, turn_within, turn_place, turn_on, turn_past}
use Rattle.routes.proofs.Moving.{passed, moved_after, moved_passed, share_small, bounded_moved, bounded_same}

-- the walk from v, the unmarked object of s at the place i, has marked v and come to t; the places of v from left on are done
pub record Walk (m i v : ℕ) (ends head next : List ℕ) (s t : State) (left count : ℕ) : Type 0 where
  pub visit : Visit m i v ends head next s
  pub clear : Clear s.objects v
  pub sized : Sized t
  pub grown : Grown (mark_object v s) t
  pub some : 0 < count
  pub counts : count + unmarked m t ≡ unmarked m (mark_object v s) + 1
  pub no_route : NoRoute m ends (λ S. T (S v)) (mark_object v s) t
  pub on : OnChain m v ends left
  pub covered : (k : ℕ) → left ≤ k → k < 2 * m → at ends k ≡ v → 0 < at s.shares k → Marked t.constraints (k / 2)

module _ {m i v : ℕ} {ends head next : List ℕ} {s : State} (visit : Visit m i v ends head next s) (clear : Clear s.objects v) where
  v_long : v < length s.objects
  v_long = omega (arith, end_small visit, visit.sized.objects)

  one_less : unmarked m (mark_object v s) + 1 ≡ unmarked m s
  one_less = unmarked_object m s v visit.sized (end_small visit) clear

module _ {m i v : ℕ} {ends head next : List ℕ} {s t : State} {left count : ℕ} (walk : Walk m i v ends head next s t left count) where
  abbrev ready : ReadyObject m i ends s
  ready = walk.visit.ready

  abbrev chained : Chained m ends head next
  chained = walk.visit.chained

  grown_t : Grown s t
  grown_t = grown_then (grown_object s v (v_long walk.visit walk.clear)) walk.grown

  marked_t : Marked t.objects v
  marked_t = walk.grown.objects v (marked_here s.objects v (v_long walk.visit walk.clear))

  unmoved_t : Unmoved s t
  unmoved_t = walk.no_route.unmoved

  bounded_t : Bounded m ends t
  bounded_t = bounded_same m ends s t unmoved_t ready.bounded

  fewer : count + unmarked m t ≡ unmarked m s
  fewer = omega (arith, walk.counts, one_less walk.visit walk.clear)

  pub walk_end : left ≡ 0 → at s.room v ≡ 0 → FromObject m i ends s t false count
  walk_end e no_room = record {
    searched = record {
      sized = walk.sized;
      grown = grown_t;
      counts = fewer;
      no_route = λ _. region_from (region_object v walk.no_route no_room (λ k b q p. walk.covered k (omega arith) b q p) (λ S h. h))
          (λ S _ h. subst (λ (x : ℕ). T (S x)) walk.visit.is h);
      moved = λ e. absurd (false≢true e);
    };
    here = λ _. subst (λ (x : ℕ). Marked t.objects x) (sym walk.visit.is) marked_t;
  }

  pub walk_falls : unmarked m t < unmarked m s
  walk_falls = omega (arith, walk.some, fewer)

  -- a turn at the place k, the one before left
  module _ {k : ℕ} (turn : left ≡ suc k) where
    k_is : k < 2 * m
    k_is = turn_within chained walk.on turn

    k_at : at ends k ≡ v
    k_at = walk.on.there k turn

    k_marked : Marked t.objects (at ends k)
    k_marked = subst (λ (x : ℕ). Marked t.objects x) (sym k_at) marked_t

    pub walk_place : k < most_ends
    walk_place = turn_place chained walk.on turn

    covered_on : (u : State) {left' : ℕ} → left' ≡ at next k → Grown t u → (0 < at t.shares k → Marked u.constraints (k / 2))
        → (q : ℕ) → left' ≤ q → q < 2 * m → at ends q ≡ v → 0 < at s.shares q → Marked u.constraints (q / 2)
    covered_on u e grown here q b l is_v p =
        ⊎_elim
        (λ y. subst (λ (x : ℕ). Marked u.constraints (x / 2)) (sym y)
        (here (subst (λ (l : List ℕ). 0 < at l k) (sym unmoved_t.shares) (subst (λ (x : ℕ). 0 < at s.shares x) y p))))
        (λ c. grown.constraints (q / 2) (walk.covered q c l is_v p))
        (turn_past chained walk.on turn e q b is_v)

    pub walk_asks : Clear t.constraints (k / 2) → ReadyConstraint m (k / 2) ends t
    walk_asks clear = record { bounded = bounded_t; is = omega (arith, k_is); clear = clear }

    module _ {u : State} {found : Bool} {more : ℕ} (after : FromConstraint m (k / 2) ends t u found more) where
      walk_counts : count + more + unmarked m u ≡ unmarked m s
      walk_counts = omega (arith, fewer, after.searched.counts)

      pub walk_count_small : count + more ≤ most_objects + most_constraints
      walk_count_small = omega (arith, walk_counts, unmarked_le m s, chained.few)

      module _ (some : 0 < at t.shares k) where
        -- there was no route by k
        pub walk_on : found ≡ false → {left' : ℕ} → left' ≡ at next k → Walk m i v ends head next s u left' (count + more)
        walk_on failed e =
            let inner : NoRoute m ends (λ S. BothIn ends S (k / 2)) t u = after.searched.no_route failed in
            record {
              visit = walk.visit;
              clear = walk.clear;
              sized = after.searched.sized;
              grown = grown_then walk.grown after.searched.grown;
              some = omega (arith, walk.some);
              counts = omega (arith, walk.counts, after.searched.counts);
              no_route = region_then after.searched.grown walk.no_route
                  (region_from inner (λ S g h. g k k_is (after.searched.grown.objects (at ends k) k_marked)
                  (subst (λ (x : ℕ). T (S x)) (sym k_at) h) (subst (λ (l : List ℕ). 0 < at l k) (sym inner.unmoved.shares) some)));
              on = turn_on chained walk.on turn e;
              covered = covered_on u e after.searched.grown (λ _. after.here);
            }

        -- there was a route by k
        module _ (yes_found : found ≡ true) where
          moved_u : Moved m (k / 2) ends t u
          moved_u = after.searched.moved yes_found

          some_u : 0 < at u.shares k
          some_u = omega (arith, moved_u.kept k k_is k_marked)

          pub walk_shifting : Shifting k i u.shares
          walk_shifting =
              let bounded : Bounded m ends u = bounded_moved bounded_t moved_u in
              let small : at u.shares i ≤ 255 = share_small m i ends u bounded ready.is in
              let smaller : at u.shares k ≤ 255 = share_small m k ends u bounded k_is in
              record {
                from = walk_place;
                to = place_small walk.visit;
                some = some_u;
                fits = grind (arith, at_set_here, at_set_off);
              }

          pub walk_moved : FromObject m i ends s (passed k i u) found (count + more)
          walk_moved =
              let z : Sized u = after.searched.sized in
              let grown_u : Grown s u = grown_then grown_t after.searched.grown in
              record {
                searched = record {
                  sized = record {
                    objects = z.objects;
                    constraints = z.constraints;
                    room = z.room;
                    shares = length-set (lowered k u.shares) i (at (lowered k u.shares) i + 1) ∙ length-set u.shares k (at u.shares k - 1) ∙ z.shares;
                  };
                  grown = record { objects = grown_u.objects; constraints = grown_u.constraints };
                  counts = walk_counts;
                  no_route = λ e. absurd (true≢false (sym yes_found ∙ e));
                  moved = λ _. moved_passed m i k v ends s u z.shares chained.few ready.is k_is walk.visit.is k_at walk.clear some_u
                      (moved_after unmoved_t grown_t moved_u);
                };
                here = λ e. absurd (true≢false (sym yes_found ∙ e));
              }
