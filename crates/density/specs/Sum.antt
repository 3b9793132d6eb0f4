-- Finite sums. Assumes nothing.
use Rattle.std.specs.Prelude.{ℕ, zero, suc, ◌+◌, Bool, true, false}

-- f 0 + f 1 + .. + f (k - 1)
unfoldable pub sum : ℕ → (ℕ → ℕ) → ℕ
sum zero f = 0
sum (suc k) f = sum k f + f k

-- x where the test holds, nothing where it does not
abbrev pub counted : Bool → ℕ → ℕ
counted true x = x
counted false x = 0
