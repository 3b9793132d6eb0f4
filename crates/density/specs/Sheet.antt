-- Sheets of shares. 01, 'Shares'. Assumes nothing.
use Rattle.std.specs.Prelude.{◌≡◌, ℕ, ◌+◌, ◌<◌, ◌≤◌, eqb, ℤ, pos, ◌-ℤ◌}
use Rattle.std.proofs.Math.IntN.{sub_ℕ}
use Rattle.density.specs.Sum.{sum, counted}
use Rattle.density.specs.Net.{Net, Side, first, second}

-- "A sheet for c gives, for each constraint in order, a share for its first end and a share for its second."
abbrev pub Sheet : Type 0
Sheet = Side → ℕ → ℕ

-- what the constraint e gives: "the two shares of a constraint", added up
abbrev pub gives : Sheet → ℕ → ℕ
gives s e = s first e + s second e

-- what the object v receives from the constraint e
abbrev pub gets : Net → Sheet → ℕ → ℕ → ℕ
gets d s v e = counted (eqb (d.end first e) v) (s first e) + counted (eqb (d.end second e) v) (s second e)

-- "the shares received by an object", added up
unfoldable pub received : Net → Sheet → ℕ → ℕ
received d s v = sum d.constraints (gets d s v)

-- "It is sound when"
pub record Sound (d : Net) (c : ℕ) (s : Sheet) : Type 0 where
  -- "the two shares of a constraint add up to no more than its weight"
  pub fits : (e : ℕ) → e < d.constraints → gives s e ≤ d.takes e
  -- "the shares received by an object add up to no more than its weight"
  pub room : (v : ℕ) → v < d.objects → received d s v ≤ d.weight v
  -- "the two ends of c receive nothing"
  pub bare : (i : Side) → received d s (d.end i c) ≡ 0

-- "the sum of all constraint weights"
unfoldable pub total : Net → ℕ
total d = sum d.constraints d.takes

-- "all shares"
unfoldable pub given : Net → Sheet → ℕ
given d s = sum d.constraints (gives s)

-- "The remainder is the sum of all constraint weights less all shares."
unfoldable pub remainder : Net → Sheet → ℤ
remainder d s = sub_ℕ (total d) (given d s)

-- "the weights of c's two ends"
abbrev pub ends_weigh : Net → ℕ → ℕ
ends_weigh d c = d.weight (d.end first c) + d.weight (d.end second c)

-- "The sheet shows the claim: remainder less the weights of c's two ends."
unfoldable pub claim : Net → ℕ → Sheet → ℤ
claim d c s = remainder d s -ℤ pos (ends_weigh d c)
