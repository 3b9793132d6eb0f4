-- What the check of a sheet answers, and what its parts do. Assumes nothing.
use Rattle.std.specs.Prelude.{◌≡◌, Bool, true, false, List, ℕ, ◌+◌, ◌*◌, ◌<◌, ◌≤◌, ℤ, length}
use Rattle.density.specs.Sum.{sum}
use Rattle.density.specs.Sheet.{gives, gets, Sound, claim}
use Rattle.limits.specs.Limits.{most_objects}
use Rattle.arrays.specs.At.{at}
use Rattle.arrays.specs.declared.NetArrays.{NetArrays}
use Rattle.arrays.specs.Held.{net_held}
use Rattle.checker.specs.declared.Tally.{Tally}
use Rattle.checker.specs.Sheet.{sheet_size, sheet_in}

-- one of the constraints of a net, and the bytes of a sheet
pub record Checking (a : NetArrays) (c : ℕ) (sheet : List ℕ) : Type 0 where
  pub is : c < a.constraints
  pub long : sheet_size a.constraints ≤ length sheet

-- 01, 'The questions': "exactly if the sheet is sound and its claim is that number"
pub record Checked (a : NetArrays) (c : ℕ) (sheet : List ℕ) (claimed : ℤ) (r : Bool) : Type 0 where
  pub sound : r ≡ true → Sound (net_held a) c (sheet_in sheet)
  pub claims : r ≡ true → claim (net_held a) c (sheet_in sheet) ≡ claimed
  pub else : r ≡ false → Sound (net_held a) c (sheet_in sheet) → claim (net_held a) c (sheet_in sheet) ≡ claimed → ⊥

-- ---- the parts

-- the two shares of each constraint add up to no more than its weight
abbrev pub AllFit : NetArrays → List ℕ → Type 0
AllFit a sheet = (e : ℕ) → e < a.constraints → gives (sheet_in sheet) e ≤ at a.takes e

-- the constraints below e fit their weights, and add up so
pub record AddedUp (a : NetArrays) (sheet : List ℕ) (e : ℕ) (t : Tally) : Type 0 where
  pub fits : (i : ℕ) → i < e → gives (sheet_in sheet) i ≤ at a.takes i
  pub total_is : t.total ≡ sum e (at a.takes)
  pub given_is : t.given ≡ sum e (gives (sheet_in sheet))
  pub load_is : (v : ℕ) → v < most_objects → at t.load v ≡ sum e (gets (net_held a) (sheet_in sheet) v)
  pub load_long : length t.load ≡ most_objects

-- no object receives more than its weight
abbrev pub HasRoom : NetArrays → List ℕ → Type 0
HasRoom a load = (v : ℕ) → v < a.objects → at load v ≤ at a.weights v

-- the two ends of constraint c receive nothing
pub record Bare (a : NetArrays) (c : ℕ) (load : List ℕ) : Type 0 where
  pub first : at load (at a.ends (2 * c)) ≡ 0
  pub second : at load (at a.ends (2 * c + 1)) ≡ 0
