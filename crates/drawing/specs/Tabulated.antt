-- The list of a function's values. Assumes nothing.
use Rattle.std.specs.Prelude.{List, [], ◌∷◌, ◌++◌, ℕ, zero, suc}

-- f 0, f 1, .. f (k - 1)
unfoldable pub tabulated : {A : Type 0} → ℕ → (ℕ → A) → List A
tabulated zero f = []
tabulated (suc k) f = tabulated k f ++ (f k ∷ [])
