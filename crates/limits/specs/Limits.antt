-- The limits of 01, 'What it covers': "Bounds: 0 to 128 objects, 0 to 512 constraints, weights 1 to 15". Assumes nothing.
use Rattle.std.specs.Prelude.{ℕ, ◌*◌}

abbrev pub most_objects : ℕ
most_objects = 128

abbrev pub most_constraints : ℕ
most_constraints = 512

-- a constraint has two ends
abbrev pub most_ends : ℕ
most_ends = 2 * most_constraints

abbrev pub most_weight : ℕ
most_weight = 15
