-- The ends of the constraints by place, and the chains that lead from an object to each of its places. Assumes nothing.
use Rattle.std.specs.Prelude.{◌≡◌, ◌≢◌, List, ℕ, ◌-◌, ◌*◌, ◌<◌, ◌≤◌}
use Rattle.limits.specs.Limits.{most_objects, most_constraints}
use Rattle.arrays.specs.At.{at}

-- p is one more than the last place below i at which v is an end, or 0 if there is none
pub record Last (ends : List ℕ) (v i p : ℕ) : Type 0 where
  pub within : p ≤ i
  pub there : 0 < p → at ends (p - 1) ≡ v
  pub none_after : (q : ℕ) → p ≤ q → q < i → at ends q ≢ v

-- every end names an object within the limits
pub record NamedEnds (m : ℕ) (ends : List ℕ) : Type 0 where
  pub few : m ≤ most_constraints
  pub named : (i : ℕ) → i < 2 * m → at ends i < most_objects

-- the chain of v starts at its last place and goes on from each place to the one before
pub record Chained (m : ℕ) (ends head next : List ℕ) : Type 0 where
  pub few : m ≤ most_constraints
  pub named : (i : ℕ) → i < 2 * m → at ends i < most_objects
  pub heads : (v : ℕ) → v < most_objects → Last ends v (2 * m) (at head v)
  pub nexts : (k : ℕ) → k < 2 * m → Last ends (at ends k) k (at next k)
