-- What is wrong with what is asked. 01, 'What is turned away, in order': ".. Then 9, 10, 11, 12." A fault is
-- its number there, and 0 is none; `rest` is what is judged behind it. Assumes nothing.
use Rattle.std.specs.Prelude.{◌≡◌, true, not, ℕ, ◌≤◌, ◌<◌, leb, ltb, ℤ}
use Rattle.drawing.specs.Choice.{pick}
use Rattle.counter.specs.Range.{in_range}

-- "10: K outside its range"
abbrev pub range_fault : ℤ → ℕ → ℕ
range_fault k rest = pick (not (in_range k)) 10 rest

-- "11: no constraint has the number c", of m constraints
abbrev pub number_fault : ℕ → ℕ → ℕ → ℕ
number_fault m c rest = pick (leb m c) 11 rest

-- "12: buffer or sheet too short"
abbrev pub room_fault : ℕ → ℕ → ℕ
room_fault room need = pick (ltb room need) 12 0

-- ---- what holds where nothing asked is at fault

-- c is the number of one of m constraints, and there is room
pub record Named (m c need room : ℕ) : Type 0 where
  pub names : c < m
  pub room_for : need ≤ room

-- K is in its range, and there is room
pub record Ranged (k : ℤ) (need room : ℕ) : Type 0 where
  pub is_in_range : in_range k ≡ true
  pub room_for : need ≤ room
