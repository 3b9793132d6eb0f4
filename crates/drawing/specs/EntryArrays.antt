-- The entries of a drawing at the front of two arrays, as the code keeps them. Assumes nothing.
use Rattle.std.specs.Prelude.{◌≡◌, List, ℕ, ◌≤◌, length, get_or}
use Rattle.limits.specs.Limits.{most_objects, most_constraints}
use Rattle.drawing.specs.declared.Object.{Object}
use Rattle.drawing.specs.declared.Constraint.{Constraint}
use Rattle.drawing.specs.Tabulated.{tabulated}
use Rattle.drawing.specs.Entry.{Drawing, no_object, no_constraint}

-- the drawing of n objects and m constraints in the arrays
unfoldable pub drawing_in : ℕ → ℕ → List Object → List Constraint → Drawing
drawing_in n m objects constraints = record {
  objects = tabulated n (λ i. get_or objects i no_object);
  constraints = tabulated m (λ e. get_or constraints e no_constraint);
}

-- the counts are within the limits, the arrays have room for the limits, and past the counts there is no entry
pub record Tidy (n m : ℕ) (objects : List Object) (constraints : List Constraint) : Type 0 where
  pub few_objects : n ≤ most_objects
  pub few_constraints : m ≤ most_constraints
  pub objects_long : length objects ≡ most_objects
  pub constraints_long : length constraints ≡ most_constraints
  pub objects_past : (i : ℕ) → n ≤ i → get_or objects i no_object ≡ no_object
  pub constraints_past : (e : ℕ) → m ≤ e → get_or constraints e no_constraint ≡ no_constraint
