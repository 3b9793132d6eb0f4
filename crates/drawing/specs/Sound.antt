-- What an entry with no fault says, and a drawing that is accepted. 01, 'What is turned away, in order', one by one. Assumes nothing.
use Rattle.std.specs.Prelude.{◌≡◌, true, ℕ, ◌<◌, ◌≤◌, length}
use Rattle.drawing.specs.declared.Object.{Object}
use Rattle.drawing.specs.declared.Constraint.{Constraint}
use Rattle.drawing.specs.Table.{object_kind, table_weight}
use Rattle.drawing.specs.Entry.{Drawing, object_at, constraint_at, kind_of}
use Rattle.limits.specs.Limits.{most_objects, most_constraints, most_weight}

-- an object on its own, and a constraint between n objects, where a and b are the kinds of those that its ends name
pub record SoundObject (o : Object) : Type 0 where
  pub known : object_kind o.kind ≡ true
  pub small : o.stated ≤ most_weight

pub record SoundConstraint (n a b : ℕ) (c : Constraint) : Type 0 where
  pub first_is : c.first < n
  pub second_is : c.second < n
  pub apart : c.first ≡ c.second → ⊥
  pub in_table : 0 < table_weight c.kind a b
  pub small : c.stated ≤ most_weight

-- an object or a constraint that may come after n objects and m constraints
pub record NextObject (n m : ℕ) (o : Object) : Type 0 where
  pub first_come : m ≡ 0
  pub in_limit : n < most_objects
  pub sound : SoundObject o

pub record NextConstraint (n m a b : ℕ) (c : Constraint) : Type 0 where
  pub in_limit : m < most_constraints
  pub sound : SoundConstraint n a b c

-- what an accepted drawing is
pub record SoundDrawing (d : Drawing) : Type 0 where
  pub few_objects : length d.objects ≤ most_objects
  pub few_constraints : length d.constraints ≤ most_constraints
  pub objects_sound : (i : ℕ) → i < length d.objects → SoundObject (object_at d i)
  pub constraints_sound : (e : ℕ) → e < length d.constraints
      → SoundConstraint (length d.objects) (kind_of d (constraint_at d e).first) (kind_of d (constraint_at d e).second) (constraint_at d e)

-- 01, 'What it covers': "weights 1 to 15"
pub record FairWeight (w : ℕ) : Type 0 where
  pub least : 1 ≤ w
  pub most : w ≤ most_weight
