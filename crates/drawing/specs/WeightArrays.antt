-- What the arrays of weights hold. Assumes nothing.
use Rattle.std.specs.Prelude.{◌≡◌, List, ℕ, ◌<◌, ◌≤◌, length, get_or}
use Rattle.drawing.specs.Entry.{Drawing}
use Rattle.drawing.specs.Weight.{object_weight, constraint_weight}
use Rattle.limits.specs.Limits.{most_objects, most_constraints}

-- an array of a length that holds f 0 .. f (k - 1), and zeros from there on
pub record Filled (long k : ℕ) (f : ℕ → ℕ) (l : List ℕ) : Type 0 where
  pub size : length l ≡ long
  pub values : (i : ℕ) → i < k → get_or l i 0 ≡ f i
  pub zeros : (i : ℕ) → k ≤ i → get_or l i 0 ≡ 0

-- the weights in force of a drawing, zero past the counts
pub record WeightsIn (d : Drawing) (objects constraints : List ℕ) : Type 0 where
  pub object_weights : Filled most_objects (length d.objects) (object_weight d) objects
  pub constraint_weights : Filled most_constraints (length d.constraints) (constraint_weight d) constraints
