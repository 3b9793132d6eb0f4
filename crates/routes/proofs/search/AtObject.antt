-- An object that a route comes to: marked already, or with room. Assumes nothing.
use mathlib.Core.Path.{◌≡◌, subst, ◌∙◌}
use mathlib.Core.List.{List}
use mathlib.Core.Bool.{true, true≢false}
use Prim.Native.Nat.{ℕ, ◌+◌, ◌-◌, ◌<◌}
use native.Mathlib.Omega.{arith}
use lib.ListN.{length-set}
use Rattle.limits.specs.Limits.{most_objects, most_ends}
use Rattle.arrays.specs.At.{at}
use Rattle.routes.specs.Marked.{Clear}
use Rattle.routes.specs.Chains.{Chained}
use Rattle.routes.specs.State.{State, Sized}
use Rattle.routes.specs.Search.{ReadyObject, FromObject, UsingRoom}
use Rattle.routes.proofs.Moving.{used_room, moved_used_room, share_small}

-- a search has come to v, the object at the place i
pub record Visit (m i v : ℕ) (ends head next : List ℕ) (s : State) : Type 0 where
  pub chained : Chained m ends head next
  pub sized : Sized s
  pub ready : ReadyObject m i ends s
  pub is : at ends i ≡ v

module _ {m i v : ℕ} {ends head next : List ℕ} {s : State} (visit : Visit m i v ends head next s) where
  pub place_small : i < most_ends
  place_small = omega (arith, visit.ready.is, visit.chained.few)

  pub end_small : v < most_objects
  end_small = subst (λ (x : ℕ). x < most_objects) visit.is (visit.chained.named i visit.ready.is)

  -- v has room
  module _ (some : 0 < at s.room v) where
    pub object_using_room : UsingRoom i v s.shares s.room
    object_using_room = record {
      place = place_small;
      object = end_small;
      has_room = some;
      fits = omega (arith, share_small m i ends s visit.ready.bounded visit.ready.is);
    }

    module _ (clear : Clear s.objects v) where
      pub object_used : FromObject m i ends s (used_room i v s) true 0
      object_used = record {
        searched = record {
          sized = record {
            objects = visit.sized.objects;
            constraints = visit.sized.constraints;
            shares = length-set s.shares i (at s.shares i + 1) ∙ visit.sized.shares;
            room = length-set s.room v (at s.room v - 1) ∙ visit.sized.room;
          };
          grown = record { objects = λ u h. h; constraints = λ e h. h };
          counts = omega arith;
          no_route = λ e. absurd (true≢false e);
          moved = λ _. moved_used_room m i v ends s visit.sized visit.chained.few visit.ready.is visit.is end_small clear some;
        };
        here = λ e. absurd (true≢false e);
      }
