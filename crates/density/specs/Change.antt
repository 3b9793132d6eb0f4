-- Two ways to make one listing of a drawing into another, by weights alone: its objects get other numbers, or its constraints are gathered.
-- Reordering, exchanging ends and joining all gather constraints. Assumes nothing.
use Rattle.std.specs.Prelude.{◌≡◌, ℕ, ◌<◌, eqb}
use Rattle.density.specs.Sum.{sum, counted}
use Rattle.density.specs.Net.{Net, Side, first, second}
use Rattle.density.specs.Listing.{Matching, Between}

-- the objects get other numbers
pub record Renumbered (d b : Net) : Type 0 where
  pub to : ℕ → ℕ
  pub from : ℕ → ℕ
  pub matched : Matching d.objects b.objects to from
  pub same_weight : (v : ℕ) → v < d.objects → b.weight (to v) ≡ d.weight v
  pub as_many : b.constraints ≡ d.constraints
  pub same_takes : (e : ℕ) → e < d.constraints → b.takes e ≡ d.takes e
  pub renamed : (i : Side) (e : ℕ) → e < d.constraints → b.end i e ≡ to (d.end i e)

-- constraint e goes into constraint `into e`, which is between the same two objects; each of b's constraints takes what those take in
-- sum that go into it
pub record Gathered (d b : Net) : Type 0 where
  pub as_many : b.objects ≡ d.objects
  pub same_weight : (v : ℕ) → v < d.objects → b.weight v ≡ d.weight v
  pub into : ℕ → ℕ
  pub into_below : (e : ℕ) → e < d.constraints → into e < b.constraints
  pub same_pair : (e : ℕ) → e < d.constraints → Between b (into e) (d.end first e) (d.end second e)
  pub summed : (f : ℕ) → f < b.constraints → b.takes f ≡ sum d.constraints (λ e. counted (eqb (into e) f) (d.takes e))
