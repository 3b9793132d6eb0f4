-- What stands at an index of an array. Assumes nothing.
use Rattle.std.specs.Prelude.{ℕ, List, get_or}

-- what stands at i, 0 past the end
abbrev pub at : List ℕ → ℕ → ℕ
at l i = get_or l i 0
