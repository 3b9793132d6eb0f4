-- Choices by tests, and rows of them. Assumes nothing.
use mathlib.Core.Path.{◌≡◌, refl}
use mathlib.Core.Bool.{Bool, true, false}
use Prim.Native.Nat.{ℕ, ◌≤◌, ◌<◌}
use lib.Dec.{lit≤}
use native.Mathlib.Omega.{arith}
use borrow.Author.Tests.{lt-ltb, le-ltb, le-leb, lt-leb, eq-eqb, ne_eqb}
use Rattle.drawing.specs.Choice.{pick}

-- a choice between the same
pub pick_same : {X : Type 0} (b : Bool) (x : X) → pick b x x ≡ x
unfolding pick
pick_same true x = refl
pick_same false x = refl

-- what holds of both choices holds of the choice
pub by_pick : {X : Type 0} (P : X → Type 0) (b : Bool) (x y : X) → (b ≡ true → P x) → (b ≡ false → P y) → P (pick b x y)
unfolding pick
by_pick P true x y f g = f refl
by_pick P false x y f g = g refl

-- the first test of a row failed, and the rest of the row has no fault
pub record Passed (b : Bool) (rest : ℕ) : Type 0 where
  pub failed : b ≡ false
  pub none : rest ≡ 0

pub passed : (b : Bool) (x rest : ℕ) → 0 < x → pick b x rest ≡ 0 → Passed b rest
unfolding pick
passed true x rest h e = absurd (omega arith)
passed false x rest h e = record { failed = refl; none = e }

-- a row has no greater number than its parts
pub pick_most : (b : Bool) (x y : ℕ) {k : ℕ} → x ≤ k → y ≤ k → pick b x y ≤ k
pick_most b x y {k} p q = by_pick (λ (n : ℕ). n ≤ k) b x y (λ _. p) (λ _. q)

-- for `search`: the bound of a row
pub ruleset row_bounds = (pick_most, lit≤, tt)

-- the tests of the code as facts on numbers, for `search`: it closes a return against a definition that goes by tests
pub ruleset tests = (lt-ltb, le-ltb, le-leb, lt-leb, eq-eqb, ne_eqb)
