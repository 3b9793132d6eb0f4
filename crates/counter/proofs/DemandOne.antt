-- Demand 1: a bad call is refused for its first fault, under that fault's number, a faultless one never, and a refusal alters no lent byte.
-- Said of the result of a call and of the bytes of the lent buffer before and after it. Assumes nothing.
use mathlib.Core.Path.{◌≡◌, sym, ◌∙◌, ap}
use mathlib.Core.Logic.{◌⊎◌, inl, inr}
use mathlib.Core.List.{List}
use Prim.Native.Nat.{ℕ, suc, ◌≤◌}
use native.Mathlib.Omega.{arith}
use lib.IntN.{ℤ}
use Rattle.drawing.specs.Entry.{Drawing}
use Rattle.records.specs.Read.{Reading, refused, read}
use Rattle.counter.specs.Outcome.{Outcome, says, Question, Answers, first_fault}
use Rattle.counter.specs.Question.{one_constraint, any_dense, sheet_for, check, look_over}
use Rattle.records.proofs.Reading.{refused_number}
use Rattle.counter.proofs.Outcomes.{Came, drawing_refused, call_refused, answer_given, came, code_alone, code_is}

-- where nothing is amiss, an answer has code 0, or code k and no bytes
abbrev pub Besides : ℕ → Question → Type 0
Besides k q = (d : Drawing) (o : Outcome) → q.answer d o → (o.code ≡ 0) ⊎ (o ≡ says k)

-- a drawing is never refused with 0; so it is with what `read` makes of bytes
abbrev pub Numbered : Reading → Type 0
Numbered x = (n : ℕ) → x ≡ refused n → 1 ≤ n

pub read_numbered : (s : List ℕ) → Numbered (read s)
read_numbered s n is = (refused_number s n is).least

module _ (q : Question) {x : Reading} {r : ℕ} {before after : List ℕ} (a : Answers q x r before after) where
  by_cases : Came q x a.outcome
  by_cases = came q x a.outcome a.fits

  -- a fault is given by its number, and the first decides; no lent byte is altered
  pub first_fault_refused : (n : ℕ) → first_fault q x ≡ suc n → (r ≡ suc n) × (after ≡ before)
  first_fault_refused n e = go by_cases
    where
      go : Came q x a.outcome → (r ≡ suc n) × (after ≡ before)
      go (drawing_refused k is u) = code_alone a (suc n) (u ∙ ap says (sym (ap (first_fault q) is) ∙ e))
      go (call_refused d k is f u) = code_alone a (suc n) (u ∙ ap says (sym (ap (first_fault q) is ∙ f) ∙ e))
      go (answer_given d is f y) = absurd (omega (arith, sym (ap (first_fault q) is ∙ f) ∙ e))

  module _ (k : ℕ) (besides : Besides k q) where
    -- a faultless call is never refused
    pub faultless_never_refused : Numbered x → first_fault q x ≡ 0 → (r ≡ 0) ⊎ (r ≡ k)
    faultless_never_refused numbered e = go by_cases
      where
        code : (a.outcome.code ≡ 0) ⊎ (a.outcome ≡ says k) → (r ≡ 0) ⊎ (r ≡ k)
        code (inl z) = inl (a.result_is ∙ z)
        code (inr z) = inr (code_alone a k z).0

        go : Came q x a.outcome → (r ≡ 0) ⊎ (r ≡ k)
        go (drawing_refused n is u) = absurd (omega (arith, numbered n is, sym (ap (first_fault q) is) ∙ e))
        go (call_refused d n is f u) = absurd (omega (arith, sym (ap (first_fault q) is ∙ f) ∙ e))
        go (answer_given d is f y) = code (besides d a.outcome y)

    -- any code but 0 leaves every byte as it was
    pub other_codes_write_nothing : (r ≡ 0 → ⊥) → after ≡ before
    other_codes_write_nothing bad = go by_cases
      where
        code : (a.outcome.code ≡ 0) ⊎ (a.outcome ≡ says k) → after ≡ before
        code (inl z) = absurd (bad (a.result_is ∙ z))
        code (inr z) = (code_alone a k z).1

        go : Came q x a.outcome → after ≡ before
        go (drawing_refused n is u) = (code_alone a n u).1
        go (call_refused d n is f u) = (code_alone a (suc n) u).1
        go (answer_given d is f y) = code (besides d a.outcome y)

-- the code of each question besides 0, where it has one
pub look_over_besides : (room : ℕ) → Besides 0 (look_over room)
look_over_besides room d o e = inl (code_is e)

pub one_constraint_besides : (c room : ℕ) → Besides 0 (one_constraint c room)
one_constraint_besides c room d o b = inl (code_is b.is)

pub any_dense_besides : (k : ℤ) (room : ℕ) → Besides 32 (any_dense k room)
any_dense_besides k room d o (inl b) = inl (code_is b.block_of.is)
any_dense_besides k room d o (inr b) = inr b.is

pub sheet_besides : (c room : ℕ) → Besides 0 (sheet_for c room)
sheet_besides c room d o x = inl (code_is x.is)

pub check_besides : (c : ℕ) (b : List ℕ) (z : ℤ) → Besides 33 (check c b z)
check_besides c b z d o (inl (x, e)) = inl (code_is e)
check_besides c b z d o (inr (x, e)) = inr e
