-- A net: what a drawing is to the counter. 01, 'What it covers': "A drawing is a list of objects and a list of constraints,
-- each between two objects .. Objects and constraints are each numbered from 0". Only weights are left: no kinds, no bytes, no limits.
-- Assumes nothing.
use Rattle.std.specs.Prelude.{◌≡◌, ◌≢◌, Bool, ◌&&◌, ℕ, ◌<◌, T}

-- a constraint's first end, or its second
pub data Side : Type 0 where
  first second : Side

pub record Net : Type 0 where
  -- how many objects, and how many constraints
  pub objects : ℕ
  pub constraints : ℕ
  -- the weight of an object; 0 is allowed
  pub weight : ℕ → ℕ
  -- the ends of a constraint, and its weight: what it takes away
  pub end : Side → ℕ → ℕ
  pub takes : ℕ → ℕ

-- 01, fault 8: no end "names no object", and never are "both ends the same"
pub record Proper (d : Net) : Type 0 where
  pub named : (i : Side) (e : ℕ) → e < d.constraints → d.end i e < d.objects
  pub apart : (e : ℕ) → e < d.constraints → d.end first e ≢ d.end second e

-- 01, 'Density': "A set of objects", a test on their numbers
abbrev pub Set : Type 0
Set = ℕ → Bool

-- S lies inside R: every object of S is one of R
abbrev pub Inside : Net → Set → Set → Type 0
Inside d S R = (v : ℕ) → v < d.objects → T (S v) → T (R v)

-- S and R have the same objects below n
abbrev pub Alike : ℕ → Set → Set → Type 0
Alike n S R = (v : ℕ) → v < n → S v ≡ R v

-- "A set of objects holds a constraint if both its ends are in the set."
abbrev pub holds : Net → Set → ℕ → Bool
holds d S e = S (d.end first e) && S (d.end second e)
