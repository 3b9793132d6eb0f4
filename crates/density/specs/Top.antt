-- The top density of a constraint and its answer set. 01, 'Density'. Assumes nothing.
use Rattle.std.specs.Prelude.{◌≡◌, ℕ, ◌<◌, ◌≤◌, T, ℤ, ◌≤ℤ◌, ◌<ℤ◌}
use Rattle.density.specs.Net.{Net, Set, holds, Inside}
use Rattle.density.specs.Density.{density}

-- M holds c and has density t
pub record Reaches (d : Net) (c : ℕ) (t : ℤ) (M : Set) : Type 0 where
  pub holding : T (holds d M c)
  pub density_is : density d M ≡ t

-- no set that holds c is denser than t
pub record Bound (d : Net) (c : ℕ) (t : ℤ) : Type 0 where
  pub no_denser : (S : Set) → T (holds d S c) → density d S ≤ℤ t

-- "For a constraint c, the top density is the greatest density of a set that holds c."
pub record Top (d : Net) (c : ℕ) (t : ℤ) : Type 0 where
  pub set : Set
  pub reached : Reaches d c t set
  pub greatest : Bound d c t

-- "The answer set is the one set with top density that lies inside every other such set."
pub record AnswerSet (d : Net) (c : ℕ) (t : ℤ) (M : Set) : Type 0 where
  pub reached : Reaches d c t M
  pub greatest : Bound d c t
  pub least : (S : Set) → Reaches d c t S → Inside d M S

-- "That it exists is part of the work.": c has a top density and an answer set
pub record HasAnswerSet (d : Net) (c : ℕ) : Type 0 where
  pub top : ℤ
  pub set : Set
  pub answer : AnswerSet d c top set

-- 01, 'The questions', any dense: "none", no constraint has a top density above K
abbrev pub NoneAt : Net → ℤ → Type 0
NoneAt d K = (c : ℕ) (t : ℤ) → c < d.constraints → Top d c t → t ≤ℤ K

-- the same said by sets: no set that holds a constraint has density above K
abbrev pub NoSetAbove : Net → ℤ → Type 0
NoSetAbove d K = (c : ℕ) → c < d.constraints → Bound d c K

-- 01, 'The questions', any dense: "the lowest-numbered constraint whose top density is above K"
pub record LowestAbove (d : Net) (K : ℤ) (c : ℕ) : Type 0 where
  pub is : c < d.constraints
  pub top : ℤ
  pub top_is : Top d c top
  pub above : K <ℤ top
  pub lowest : (e : ℕ) (t : ℤ) → e < d.constraints → Top d e t → K <ℤ t → c ≤ e
