-- Marks: an array with anything but 0 for what is marked. Assumes nothing.
use Rattle.std.specs.Prelude.{◌≡◌, List, ℕ, ◌<◌, ltb}
use Rattle.density.specs.Net.{Set}
use Rattle.arrays.specs.At.{at}

-- x is marked
abbrev pub Marked : List ℕ → ℕ → Type 0
Marked l x = 0 < at l x

-- x is not marked
abbrev pub Clear : List ℕ → ℕ → Type 0
Clear l x = at l x ≡ 0

-- the set of the marked objects
abbrev pub members : List ℕ → Set
members objects v = ltb 0 (at objects v)
