-- From a constraint to both its ends. Assumes nothing.
use mathlib.Core.Path.{◌≡◌, refl, sym, subst, ◌∙◌}
use mathlib.Core.List.{List}
use mathlib.Core.Bool.{Bool, true, false, true≢false}
use Prim.Native.Nat.{ℕ, ◌+◌, ◌*◌, ◌/◌, ◌<◌, ◌≤◌}
use native.Mathlib.Omega.{arith}
use lib.ListN.{length}
use Rattle.limits.specs.Limits.{most_objects, most_constraints}
use Rattle.arrays.specs.At.{at}
use Rattle.routes.specs.Marked.{Marked}
use Rattle.routes.specs.State.{State, Sized, Grown, BothIn, unmarked}
use Rattle.routes.specs.Search.{ReadyObject, ReadyConstraint, NoRoute, Moved, FromObject, FromConstraint}
use Rattle.routes.proofs.Places.{by_place}
use Rattle.routes.proofs.Marking.{mark_constraint, grown_then, grown_constraint, unmarked_constraint, unmarked_le, marked_here}
use Rattle.routes.proofs.Region.{region_then, region_from, region_constraint}
use Rattle.routes.proofs.Moving.{moved_after, bounded_same}

module _ {m e : ℕ} {ends : List ℕ} {s : State} (few : m ≤ most_constraints) (sized : Sized s) (ready : ReadyConstraint m e ends s) where
  abbrev marked : State
  marked = mark_constraint e s

  e_long : e < length s.constraints
  e_long = omega (arith, ready.is, few, sized.constraints)

  pub both_falls : unmarked m marked < unmarked m s
  both_falls = omega (arith, unmarked_constraint m s e sized ready.is e_long ready.clear)

  pub first_asks : ReadyObject m (2 * e) ends marked
  first_asks = record { bounded = ready.bounded; is = omega (arith, ready.is) }

  module _ {t : State} {found : Bool} {one : ℕ} (after : FromObject m (2 * e) ends marked t found one) where
    first_counts : one + 1 + unmarked m t ≡ unmarked m s
    first_counts = omega (arith, after.searched.counts, unmarked_constraint m s e sized ready.is e_long ready.clear)

    pub first_small : one + 1 ≤ most_objects + most_constraints
    first_small = omega (arith, first_counts, unmarked_le m s, few)

    pub first_falls : unmarked m t < unmarked m s
    first_falls = omega (arith, first_counts)

    grown_t : Grown s t
    grown_t = grown_then (grown_constraint s e e_long) after.searched.grown

    here_t : Marked t.constraints e
    here_t = after.searched.grown.constraints e (marked_here s.constraints e e_long)

    pub first_found : found ≡ true → FromConstraint m e ends s t found (one + 1)
    first_found is =
        let moved : Moved m (2 * e / 2) ends marked t = after.searched.moved is in
        record {
          searched = record {
            sized = after.searched.sized;
            grown = grown_t;
            counts = first_counts;
            no_route = λ q. absurd (true≢false (sym is ∙ q));
            moved = λ _. subst (λ (x : ℕ). Moved m x ends s t) (omega arith)
                (moved_after (record { shares = refl; room = refl }) (grown_constraint s e e_long) moved);
          };
          here = here_t;
        }

    pub second_asks : found ≡ false → ReadyObject m (2 * e + 1) ends t
    second_asks failed = record {
      bounded = bounded_same m ends s t (after.searched.no_route failed).unmoved ready.bounded;
      is = omega (arith, ready.is);
    }

    module _ {u : State} {found' : Bool} {two : ℕ} (last : FromObject m (2 * e + 1) ends t u found' two) where
      both_counts : one + 1 + two + unmarked m u ≡ unmarked m s
      both_counts = omega (arith, first_counts, last.searched.counts)

      pub both_count_small : one + 1 + two ≤ most_objects + most_constraints
      both_count_small = omega (arith, both_counts, unmarked_le m s, few)

      both_no_route : found ≡ false → found' ≡ false → NoRoute m ends (λ S. BothIn ends S e) s u
      both_no_route failed failed' =
          region_constraint e
          (region_then last.searched.grown
          (region_from (after.searched.no_route failed) (λ S _ h. h (2 * e) (omega arith)))
          (region_from (last.searched.no_route failed') (λ S _ h. h (2 * e + 1) (omega arith))))
          (λ i q. by_place (λ x. Marked u.objects (at ends x)) e q (last.searched.grown.objects (at ends (2 * e)) (after.here failed)) (last.here failed'))

      pub both_searched : found ≡ false → FromConstraint m e ends s u found' (one + 1 + two)
      both_searched failed = record {
        searched = record {
          sized = last.searched.sized;
          grown = grown_then grown_t last.searched.grown;
          counts = both_counts;
          no_route = λ failed'. both_no_route failed failed';
          moved = λ is. subst (λ (x : ℕ). Moved m x ends s u) (omega arith)
              (moved_after (after.searched.no_route failed).unmoved grown_t (last.searched.moved is));
        };
        here = last.searched.grown.constraints e here_t;
      }
