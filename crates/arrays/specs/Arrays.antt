-- The one place at which arrays become a net and a sheet. Assumes nothing.
use Rattle.std.specs.Prelude.{◌≢◌, List, ℕ, ◌+◌, ◌*◌, ◌<◌, ◌≤◌}
use Rattle.density.specs.Net.{Net, Side, first, second}
use Rattle.density.specs.Sheet.{Sheet}
use Rattle.limits.specs.Limits.{most_objects, most_constraints, most_weight}
use Rattle.arrays.specs.At.{at}

-- the place of an end of the constraint e
abbrev pub place : Side → ℕ → ℕ
place first e = 2 * e
place second e = 2 * e + 1

-- n objects and m constraints, with the ends by place, the object weights and the constraint weights
abbrev pub net_in : ℕ → ℕ → List ℕ → List ℕ → List ℕ → Net
net_in n m ends weights takes = record {
  objects = n;
  constraints = m;
  weight = λ v. at weights v;
  end = λ i e. at ends (place i e);
  takes = λ e. at takes e;
}

-- the shares by place
abbrev pub shares_in : List ℕ → Sheet
shares_in shares i e = at shares (place i e)

-- 01, 'What it covers': within the limits, every end names an object, no constraint has both ends the same, and no
-- weight is above its limit
pub record Fair (n m : ℕ) (ends weights takes : List ℕ) : Type 0 where
  pub few_objects : n ≤ most_objects
  pub few_constraints : m ≤ most_constraints
  pub named : (i : ℕ) → i < 2 * m → at ends i < n
  pub apart : (e : ℕ) → e < m → at ends (2 * e) ≢ at ends (2 * e + 1)
  pub light_objects : (v : ℕ) → v < n → at weights v ≤ most_weight
  pub light_constraints : (e : ℕ) → e < m → at takes e ≤ most_weight
