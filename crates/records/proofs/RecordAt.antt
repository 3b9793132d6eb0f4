-- The record at a position: a fault is one of 01's numbers, and a head with no fault has its body behind it. Assumes nothing.
use mathlib.Core.Path.{◌≡◌, subst}
use mathlib.Core.List.{List}
use Prim.Native.Nat.{ℕ, ◌+◌, ◌≤◌}
use native.Mathlib.Omega.{arith}
use lib.ListN.{length}
use lib.Dec.{lit<, eqb}
use borrow.Author.Tests.{ltb-false, eqb-true, eqb-false}
use Rattle.drawing.specs.Choice.{pick}
use Rattle.drawing.specs.Fault.{last_refusal, RefusalNumber}
use Rattle.records.specs.Format.{head_size, body_length, head_fault, record_kind, next_record, an_object, a_constraint, an_end}
use Rattle.records.specs.Format.{Record, faulty, object, constraint, end, record_at}
use Rattle.drawing.proofs.Choice.{passed, by_pick, row_bounds}

pub record Whole (s : List ℕ) (at : ℕ) : Type 0 where
  pub head : at + head_size ≤ length s
  pub body : next_record at (record_kind s at) ≤ length s

pub whole : (s : List ℕ) (at : ℕ) → head_fault s at ≡ 0 → Whole s at
unfolding head_fault
whole s at e =
    let head = passed _ _ _ (lit< tt) e in
    let kind = passed _ _ _ (lit< tt) head.none in
    let long = passed _ _ _ (lit< tt) kind.none in
    let body = passed _ _ _ (lit< tt) long.none in
    record { head = ltb-false _ _ head.failed; body = ltb-false _ _ body.failed }

-- of a record of a known kind, the body is there
pub body_there : (s : List ℕ) (at kind : ℕ) → head_fault s at ≡ 0 → record_kind s at ≡ kind → next_record at kind ≤ length s
body_there s at kind e k = subst (λ (n : ℕ). next_record at n ≤ length s) k (whole s at e).body

pub end_there : (s : List ℕ) (at : ℕ) → head_fault s at ≡ 0 → next_record at an_end ≤ length s
unfolding body_length pick
end_there s at e = omega (arith, (whole s at e).head)

head_most : (s : List ℕ) (at : ℕ) → head_fault s at ≤ last_refusal
unfolding head_fault
head_most s at = search row_bounds depth 9

-- what the record at a position says: a fault has its number, and a record is there in full
abbrev pub RecordFacts : List ℕ → ℕ → Record → Type 0
RecordFacts s at (faulty k) = RefusalNumber k
RecordFacts s at (object o) = next_record at an_object ≤ length s
RecordFacts s at (constraint c) = next_record at a_constraint ≤ length s
RecordFacts s at end = next_record at an_end ≤ length s

pub record_facts : (s : List ℕ) (at : ℕ) → RecordFacts s at (record_at s at)
unfolding record_at body_length
record_facts s at =
    by_pick (RecordFacts s at) (eqb (head_fault s at) 0) _ _
    (λ clear.
    let none = eqb-true (head_fault s at) 0 clear in
    by_pick (RecordFacts s at) (eqb (record_kind s at) an_object) _ _
    (λ k. body_there s at an_object none (eqb-true _ _ k))
    (λ _.
    by_pick (RecordFacts s at) (eqb (record_kind s at) a_constraint) _ _
    (λ k. body_there s at a_constraint none (eqb-true _ _ k))
    (λ _. end_there s at none)))
    (λ fault. record { least = omega (arith, eqb-false (head_fault s at) 0 fault); most = head_most s at })
