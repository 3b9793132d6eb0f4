-- What a call comes to: laws for every question. From the first fault of the call, or from an outcome that answers, to the statement of an
-- entry; and back from a call that was not refused. Assumes nothing.
use mathlib.Core.Path.{◌≡◌, refl, sym, ◌∙◌, ap, subst}
use mathlib.Core.Logic.{◌⊎◌, inl, inr}
use mathlib.Core.List.{List}
use Prim.Native.Nat.{ℕ, zero, suc, ◌≤◌, ◌<◌}
use native.Mathlib.Omega.{arith}
use Rattle.codes.specs.declared.Fault.{Fault}
use Rattle.codes.specs.Codes.{fault_number}
use Rattle.codes.proofs.Numbers.{at_least_1}
use Rattle.drawing.specs.Entry.{Drawing}
use Rattle.records.specs.Read.{Reading, refused, accepted}
use Rattle.counter.specs.Outcome.{Outcome, says, Question, asked_fault, first_fault, Unless, Fits, over, Answers}

-- ---- to the statement of an entry

-- the first fault of a call, not 0, is said, and nothing is written
pub refuses : (q : Question) (x : Reading) (f : ℕ) → first_fault q x ≡ f → (f ≡ 0 → ⊥) → {before : List ℕ} → Answers q x f before before
refuses q x f e h = record { outcome = says f; fits = go x f e h; result_is = refl; after_is = refl }
  where
    unless : (d : Drawing) (g f : ℕ) → g ≡ f → (f ≡ 0 → ⊥) → Unless g (says f) (q.answer d (says f))
    unless d zero f e h = absurd (h (sym e))
    unless d (suc g) f e h = ap says (sym e)

    go : (x : Reading) (f : ℕ) → first_fault q x ≡ f → (f ≡ 0 → ⊥) → Fits q x (says f)
    go (refused n) f e h = ap says (sym e)
    go (accepted d) f e h = unless d (asked_fault q d) f e h

-- the same of a fault as the code has it: that of the drawing, and of what is asked about an accepted one
not_0 : (f : Fault) → fault_number f ≡ 0 → ⊥
not_0 f e = omega (arith, at_least_1 f)

pub drawing_refuses : {q : Question} {x : Reading} (f : Fault) → x ≡ refused (fault_number f) → {before : List ℕ} → Answers q x (fault_number f) before before
drawing_refuses {q} {x} f is = refuses q x (fault_number f) (ap (first_fault q) is) (not_0 f)

module _ (q : Question) {x : Reading} {d : Drawing} (is : x ≡ accepted d) where
  pub fault_said : (f : Fault) → fault_number f ≡ asked_fault q d → {before : List ℕ} → Answers q x (fault_number f) before before
  fault_said f e = refuses q x (fault_number f) (ap (first_fault q) is ∙ sym e) (not_0 f)

  -- no fault, an outcome that answers the question about the drawing, and its bytes written over the buffer
  pub answers : 0 ≡ asked_fault q d → (o : Outcome) → q.answer d o → {before after : List ℕ} → after ≡ over o.bytes before
      → Answers q x o.code before after
  answers e o y w =
      record {
        outcome = o;
        fits = subst (λ (v : Reading). Fits q v o) (sym is) (subst (λ (f : ℕ). Unless f o (q.answer d o)) e y);
        result_is = refl;
        after_is = w;
      }

-- ---- from the statement of an entry

-- what an outcome that fits is: the drawing's refusal, the fault of what is asked, or an answer
pub data Came (q : Question) (x : Reading) (o : Outcome) : Type 0 where
  drawing_refused : (n : ℕ) → x ≡ refused n → o ≡ says n → Came q x o
  call_refused : (d : Drawing) (n : ℕ) → x ≡ accepted d → asked_fault q d ≡ suc n → o ≡ says (suc n) → Came q x o
  answer_given : (d : Drawing) → x ≡ accepted d → asked_fault q d ≡ 0 → q.answer d o → Came q x o

pub came : (q : Question) (x : Reading) (o : Outcome) → Fits q x o → Came q x o
came q (refused n) o u = drawing_refused n refl u
came q (accepted d) o u = asked (asked_fault q d) refl u
  where
    asked : (f : ℕ) → asked_fault q d ≡ f → Unless f o (q.answer d o) → Came q (accepted d) o
    asked zero e u = answer_given d refl e u
    asked (suc f) e u = call_refused d f refl e u

-- equal outcomes have one code, and leave one buffer
pub code_is : {o p : Outcome} → o ≡ p → o.code ≡ p.code
code_is e = ap (λ (o : Outcome). o.code) e

pub buffer_is : {o p : Outcome} (before : List ℕ) → o ≡ p → over o.bytes before ≡ over p.bytes before
buffer_is before e = ap (λ (o : Outcome). over o.bytes before) e

-- an outcome with a code alone: the result is the code, and every byte is as it was
pub code_alone : {q : Question} {x : Reading} {r : ℕ} {before after : List ℕ} (a : Answers q x r before after) (n : ℕ) → a.outcome ≡ says n
    → (r ≡ n) × (after ≡ before)
code_alone {before = before} a n e =
    (a.result_is ∙ code_is e, a.after_is ∙ buffer_is before e)

-- ---- from a call about an accepted drawing that was not refused

module _ (q : Question) {x : Reading} {r : ℕ} {before after : List ℕ} (a : Answers q x r before after) (d : Drawing) (is : x ≡ accepted d) where
  fits_so : Fits q (accepted d) a.outcome
  fits_so = subst (λ (v : Reading). Fits q v a.outcome) is a.fits

  -- nothing asked was amiss, and the outcome answers the question; faults are below 32
  pub unrefused : (r ≡ 0) ⊎ (32 ≤ r) → asked_fault q d < 32 → (asked_fault q d ≡ 0) × q.answer d a.outcome
  unrefused code low = go (asked_fault q d) refl fits_so
    where
      go : (f : ℕ) → asked_fault q d ≡ f → Unless f a.outcome (q.answer d a.outcome) → (asked_fault q d ≡ 0) × q.answer d a.outcome
      go zero e u = (e, u)
      go (suc f) e u = absurd (clash code)
        where
          r_is : r ≡ suc f
          r_is = a.result_is ∙ code_is u

          clash : (r ≡ 0) ⊎ (32 ≤ r) → ⊥
          clash (inl z) = omega (arith, r_is)
          clash (inr z) = omega (arith, r_is)

  -- a faultless call has an outcome that answers the question
  pub faultless_answered : asked_fault q d ≡ 0 → q.answer d a.outcome
  faultless_answered f = subst (λ (k : ℕ). Unless k a.outcome (q.answer d a.outcome)) f fits_so
