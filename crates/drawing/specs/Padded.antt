-- A list with blanks behind it. Assumes nothing.
use Rattle.std.specs.Prelude.{ℕ, List, ◌++◌, ◌-◌, length, replicate}

-- with so many that there are n items in all
abbrev pub padded : {T : Type 0} → T → ℕ → List T → List T
padded blank n l = l ++ replicate (n - length l) blank
