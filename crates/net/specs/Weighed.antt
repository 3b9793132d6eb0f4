-- The net of a drawing: its constraints with the weights in force. The one place where a drawing becomes a net. Assumes nothing.
use Rattle.std.specs.Prelude.{ℕ, ◌≤◌, ◌<◌, ltb, length}
use Rattle.drawing.specs.Choice.{pick}
use Rattle.density.specs.Net.{Net, Proper, Side, first, second}
use Rattle.density.specs.Listing.{Heavy}
use Rattle.drawing.specs.Entry.{Drawing, constraint_at}
use Rattle.limits.specs.Limits.{most_objects, most_constraints, most_weight}
use Rattle.drawing.specs.Weight.{object_weight, constraint_weight}

abbrev pub end_of : Drawing → Side → ℕ → ℕ
end_of d first e = (constraint_at d e).first
end_of d second e = (constraint_at d e).second

-- the weight of object v; 0 where there is none
abbrev pub weight_of : Drawing → ℕ → ℕ
weight_of d v = pick (ltb v (length d.objects)) (object_weight d v) 0

unfoldable pub weighed : Drawing → Net
weighed d =
    record {
      objects = length d.objects;
      constraints = length d.constraints;
      weight = weight_of d;
      end = end_of d;
      takes = constraint_weight d;
    }

-- what the net of an accepted drawing is: proper and within the limits, each constraint takes something, and no weight is above the most
pub record Within (d : Drawing) : Type 0 where
  pub few_objects : length d.objects ≤ most_objects
  pub few_constraints : length d.constraints ≤ most_constraints
  pub proper : Proper (weighed d)
  pub heavy : Heavy (weighed d)
  pub light_objects : (v : ℕ) → v < length d.objects → weight_of d v ≤ most_weight
  pub light_constraints : (e : ℕ) → e < length d.constraints → constraint_weight d e ≤ most_weight
