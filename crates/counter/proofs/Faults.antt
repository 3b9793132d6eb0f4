-- The faults of what is asked, in their rows. Assumes nothing.
use mathlib.Core.Path.{◌≡◌, ap}
use mathlib.Core.Bool.{Bool, not}
use Prim.Native.Nat.{ℕ, ◌≤◌, ◌<◌}
use borrow.Author.Tests.{le-ltb, le-leb, lt-leb, leb-false, ltb-false}
use lib.Dec.{leb, ltb, lit<}
use lib.IntN.{ℤ}
use Rattle.drawing.specs.Choice.{pick}
use Rattle.drawing.proofs.Choice.{passed, by_pick}
use Rattle.counter.specs.Range.{in_range}
use Rattle.counter.specs.Fault.{room_fault, number_fault, range_fault}

-- ---- one test of a row: it holds, or the rest decides

pub number_past : (m c rest : ℕ) → m ≤ c → number_fault m c rest ≡ 11
unfolding pick
number_past m c rest h = ap (λ b. pick b 11 rest) (le-leb m c h)

pub room_there : (room need : ℕ) → need ≤ room → room_fault room need ≡ 0
unfolding pick
room_there room need h = ap (λ b. pick b 12 0) (le-ltb room need h)

pub number_there : (m c rest : ℕ) → c < m → number_fault m c rest ≡ rest
unfolding pick
number_there m c rest h = ap (λ b. pick b 11 rest) (lt-leb m c h)

-- where the number is not at fault, it names a constraint
pub number_names : (m c rest : ℕ) → number_fault m c rest ≡ 0 → c < m
number_names m c rest e = leb-false m c (passed (leb m c) 11 rest (lit< tt) e).failed

-- where nothing is at fault, there is room
pub room_enough : (room need : ℕ) → room_fault room need ≡ 0 → need ≤ room
room_enough room need e = ltb-false room need (passed (ltb room need) 12 0 (lit< tt) e).failed

pub number_enough : (m c room need : ℕ) → number_fault m c (room_fault room need) ≡ 0 → need ≤ room
number_enough m c room need e = room_enough room need (passed (leb m c) 11 (room_fault room need) (lit< tt) e).none

pub range_enough : (k : ℤ) (room need : ℕ) → range_fault k (room_fault room need) ≡ 0 → need ≤ room
range_enough k room need e = room_enough room need (passed (not (in_range k)) 10 (room_fault room need) (lit< tt) e).none

-- ---- every fault is below 32: "Codes 32 and 33 come only where nothing is refused."

pub row_low : (b : Bool) (x rest : ℕ) → x < 32 → rest < 32 → pick b x rest < 32
row_low b x rest h k = by_pick (λ (n : ℕ). n < 32) b x rest (λ _. h) (λ _. k)

pub room_low : (room need : ℕ) → room_fault room need < 32
room_low room need = row_low (ltb room need) 12 0 (lit< tt) (lit< tt)

pub number_low : (m c room need : ℕ) → number_fault m c (room_fault room need) < 32
number_low m c room need = row_low (leb m c) 11 (room_fault room need) (lit< tt) (room_low room need)

pub range_low : (k : ℤ) (room need : ℕ) → range_fault k (room_fault room need) < 32
range_low k room need = row_low (not (in_range k)) 10 (room_fault room need) (lit< tt) (room_low room need)
