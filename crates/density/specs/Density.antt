-- The density of a set. 01, 'Density'. Assumes nothing.
use Rattle.std.specs.Prelude.{ℕ, ◌<◌, T, ℤ, ◌<ℤ◌}
use Rattle.std.proofs.Math.IntN.{sub_ℕ}
use Rattle.density.specs.Sum.{sum, counted}
use Rattle.density.specs.Net.{Net, Set, holds}

-- "the sum of the weights of the constraints it holds"
unfoldable pub taken_by : Net → Set → ℕ
taken_by d S = sum d.constraints (λ e. counted (holds d S e) (d.takes e))

-- "the sum of the weights of its objects"
unfoldable pub free : Net → Set → ℕ
free d S = sum d.objects (λ v. counted (S v) (d.weight v))

-- "The density of a set is the sum of the weights of the constraints it holds, less the sum of the weights of its objects."
unfoldable pub density : Net → Set → ℤ
density d S = sub_ℕ (taken_by d S) (free d S)

-- "A set is dense at K if its density is strictly above K and it holds at least one constraint."
pub record Dense (d : Net) (K : ℤ) (S : Set) : Type 0 where
  pub above : K <ℤ density d S
  pub some : ℕ
  pub is : some < d.constraints
  pub held_by : T (holds d S some)

-- some set is dense at K
pub record HasDense (d : Net) (K : ℤ) : Type 0 where
  pub set : Set
  pub dense : Dense d K set

-- no set is
abbrev pub NoneDense : Net → ℤ → Type 0
NoneDense d K = HasDense d K → ⊥
