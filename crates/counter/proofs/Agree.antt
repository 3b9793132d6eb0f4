-- Two outcomes that both fit a question agree: the questions determine the code and every byte written. The sheet is the one
-- exception: two results agree in the code and in every byte behind the sheet, and where the code is not 0 in the whole buffer. Assumes nothing.
use mathlib.Core.Path.{◌≡◌, sym, ◌∙◌, ap, subst}
use mathlib.Core.Logic.{inl, inr}
use mathlib.Core.List.{List}
use Prim.Native.Nat.{ℕ, zero, suc}
use lib.IntN.{ℤ}
use lib.ListN.{length, drop}
use lib.Signed.{clash_ℤ}
use Rattle.density.specs.Top.{LowestAbove, NoneAt}
use Rattle.density.proofs.OneAnswer.{answers_agree, lowest_one}
use Rattle.drawing.specs.Entry.{Drawing}
use Rattle.records.specs.Read.{Reading, refused, accepted}
use Rattle.net.specs.Weighed.{weighed}
use Rattle.counter.specs.Outcome.{Outcome, answered, Question, Unless, Fits, Answers, Replies, asked_fault}
use Rattle.counter.specs.Question.{look_over, one_constraint, any_dense, sheet_for, check, BlockOf, SheetOf}
use Rattle.counter.proofs.Outcomes.{Came, drawing_refused, call_refused, answer_given, came, code_alone, code_is, buffer_is}
use Rattle.counter.proofs.DemandOne.{sheet_besides, other_codes_write_nothing}
use Rattle.counter.proofs.Blocks.{block_same}
use lib.Seq.{drop_at}
use Rattle.checker.specs.Sheet.{sheet_size}

-- the answer to q determines a part of the outcome
abbrev pub Determines : {A : Type 0} → (Outcome → A) → Question → Type 0
Determines part q = (d : Drawing) (o p : Outcome) → q.answer d o → q.answer d p → part o ≡ part p

module _ {A : Type 0} (part : Outcome → A) (q : Question) (determined : Determines part q) where
  pub outcomes_agree : (r : Reading) (o p : Outcome) → Fits q r o → Fits q r p → part o ≡ part p
  outcomes_agree (refused n) o p x y = ap part (x ∙ sym y)
  outcomes_agree (accepted d) o p x y = go (asked_fault q d) x y
    where
      go : (n : ℕ) → Unless n o (q.answer d o) → Unless n p (q.answer d p) → part o ≡ part p
      go zero x y = determined d o p x y
      go (suc n) x y = ap part (x ∙ sym y)

-- where q determines the outcome, two results that both fit the statement agree in the code and in every byte of the buffer
pub results_agree : (q : Question) → Determines (λ o. o) q → {s : Reading} {r₁ r₂ : ℕ} {before after₁ after₂ : List ℕ}
    → Answers q s r₁ before after₁ → Answers q s r₂ before after₂ → (r₁ ≡ r₂) × (after₁ ≡ after₂)
results_agree q determined {s} {before = before} a b = (
  a.result_is ∙ code_is same ∙ sym b.result_is,
  a.after_is ∙ buffer_is before same ∙ sym b.after_is,
)
  where
    same : a.outcome ≡ b.outcome
    same = outcomes_agree (λ o. o) q determined s a.outcome b.outcome a.fits b.fits

-- ---- each question

pub look_over_determines : (room : ℕ) → Determines (λ o. o) (look_over room)
look_over_determines room d o p x y = x ∙ sym y

blocks_agree : (d : Drawing) (c : ℕ) (o p : Outcome) → BlockOf d c o → BlockOf d c p → o ≡ p
unfolding weighed
blocks_agree d c o p x y =
    let both = answers_agree (weighed d) c x.top y.top x.set y.set x.answer y.answer in
    x.is ∙ ap answered (block_same (length d.objects) c x.top y.top x.set y.set both.0 both.1) ∙ sym y.is

pub one_constraint_determines : (c room : ℕ) → Determines (λ o. o) (one_constraint c room)
one_constraint_determines c room d o p x y = blocks_agree d c o p x y

-- the lowest constraint above K and none at K exclude each other
lowest_clash : (d : Drawing) (k : ℤ) (c : ℕ) → LowestAbove (weighed d) k c → NoneAt (weighed d) k → ⊥
lowest_clash d k c l none = clash_ℤ l.above (none c l.top l.is l.top_is)

pub any_dense_determines : (k : ℤ) (room : ℕ) → Determines (λ o. o) (any_dense k room)
any_dense_determines k room d o p (inl x) (inl y) =
    blocks_agree d x.constraint o p x.block_of
    (subst (λ (c : ℕ). BlockOf d c p) (sym (lowest_one (weighed d) k x.constraint y.constraint x.lowest y.lowest)) y.block_of)
any_dense_determines k room d o p (inl x) (inr y) = absurd (lowest_clash d k x.constraint x.lowest y.none)
any_dense_determines k room d o p (inr x) (inl y) = absurd (lowest_clash d k y.constraint y.lowest x.none)
any_dense_determines k room d o p (inr x) (inr y) = x.is ∙ sym y.is

pub check_determines : (c : ℕ) (b : List ℕ) (z : ℤ) → Determines (λ o. o) (check c b z)
check_determines c b z d o p (inl (x, e)) (inl (y, f)) = e ∙ sym f
check_determines c b z d o p (inl (x, e)) (inr (y, f)) = absurd (y x)
check_determines c b z d o p (inr (x, e)) (inl (y, f)) = absurd (x y)
check_determines c b z d o p (inr (x, e)) (inr (y, f)) = e ∙ sym f

-- the sheet: the code, and how many bytes are written
pub record SizeOf : Type 0 where
  pub code : ℕ
  pub long : ℕ

abbrev pub size_of : Outcome → SizeOf
size_of o = record { code = o.code; long = length o.bytes }

pub sheet_determines_size : (c room : ℕ) → Determines size_of (sheet_for c room)
sheet_determines_size c room d o p x y = size x ∙ sym (size y)
  where
    size : {o : Outcome} → SheetOf d c o → size_of o ≡ record { code = 0; long = sheet_size (length d.constraints) }
    size z = ap size_of z.is ∙ ap (λ (n : ℕ). record { code = 0; long = n }) z.long

-- how many constraints were read; none where the drawing was refused
abbrev pub constraints_read : Reading → ℕ
constraints_read (refused n) = 0
constraints_read (accepted d) = length d.constraints

-- every byte behind the sheet is as it was
pub sheet_behind : (c : ℕ) {x : Reading} {r : ℕ} {before after : List ℕ} → Answers (sheet_for c (length before)) x r before after
    → drop (sheet_size (constraints_read x)) after ≡ drop (sheet_size (constraints_read x)) before
sheet_behind c {x} {before = before} {after = after} a = go (came (sheet_for c (length before)) x a.outcome a.fits)
  where
    Behind : Reading → Type 0
    Behind y = drop (sheet_size (constraints_read y)) after ≡ drop (sheet_size (constraints_read y)) before

    go : Came (sheet_for c (length before)) x a.outcome → Behind x
    go (drawing_refused n is e) = ap (drop (sheet_size (constraints_read x))) (code_alone a n e).1
    go (call_refused d n is f e) = ap (drop (sheet_size (constraints_read x))) (code_alone a (suc n) e).1
    go (answer_given d is f y) =
        subst Behind (sym is)
        (ap (drop (sheet_size (length d.constraints))) (a.after_is ∙ buffer_is before y.is)
        ∙ drop_at y.bytes (drop (length y.bytes) before) (sheet_size (length d.constraints)) y.long
        ∙ ap (λ (k : ℕ). drop k before) y.long)

-- ---- two results of a call agree

pub look_over_agrees : {s : Reading} {before after₁ after₂ : List ℕ} {r₁ r₂ : ℕ} → Answers (look_over (length before)) s r₁ before after₁
    → Answers (look_over (length before)) s r₂ before after₂ → (r₁ ≡ r₂) × (after₁ ≡ after₂)
look_over_agrees {before = before} = results_agree (look_over (length before)) (look_over_determines (length before))

pub one_constraint_agrees : (c : ℕ) {s : Reading} {before after₁ after₂ : List ℕ} {r₁ r₂ : ℕ} → Answers (one_constraint c (length before)) s r₁ before after₁
    → Answers (one_constraint c (length before)) s r₂ before after₂ → (r₁ ≡ r₂) × (after₁ ≡ after₂)
one_constraint_agrees c {before = before} = results_agree (one_constraint c (length before)) (one_constraint_determines c (length before))

pub any_dense_agrees : (k : ℤ) {s : Reading} {before after₁ after₂ : List ℕ} {r₁ r₂ : ℕ} → Answers (any_dense k (length before)) s r₁ before after₁
    → Answers (any_dense k (length before)) s r₂ before after₂ → (r₁ ≡ r₂) × (after₁ ≡ after₂)
any_dense_agrees k {before = before} = results_agree (any_dense k (length before)) (any_dense_determines k (length before))

pub check_agrees : (c : ℕ) (b : List ℕ) (z : ℤ) {s : Reading} {r₁ r₂ : ℕ} → Replies (check c b z) s r₁ → Replies (check c b z) s r₂ → r₁ ≡ r₂
check_agrees c b z x y = (results_agree (check c b z) (check_determines c b z) x y).0

-- the sheet: the code; where it is not 0, both whole buffers are as before; else every byte behind the sheet is
pub record SheetsAgree (x : Reading) (r₁ r₂ : ℕ) (before after₁ after₂ : List ℕ) : Type 0 where
  pub same_code : r₁ ≡ r₂
  pub unwritten : (r₁ ≡ 0 → ⊥) → (after₁ ≡ before) × (after₂ ≡ before)
  pub behind_first : drop (sheet_size (constraints_read x)) after₁ ≡ drop (sheet_size (constraints_read x)) before
  pub behind_second : drop (sheet_size (constraints_read x)) after₂ ≡ drop (sheet_size (constraints_read x)) before

pub sheet_agrees : (c : ℕ) {x : Reading} {r₁ r₂ : ℕ} {before after₁ after₂ : List ℕ} → Answers (sheet_for c (length before)) x r₁ before after₁
    → Answers (sheet_for c (length before)) x r₂ before after₂ → SheetsAgree x r₁ r₂ before after₁ after₂
sheet_agrees c {x} {r₁} {r₂} {before} a b =
    record {
      same_code = same;
      unwritten = λ bad. (unwritten a bad, unwritten b (λ z. bad (same ∙ z)));
      behind_first = sheet_behind c a;
      behind_second = sheet_behind c b;
    }
  where
    unwritten : {r : ℕ} {after : List ℕ} → Answers (sheet_for c (length before)) x r before after → (r ≡ 0 → ⊥) → after ≡ before
    unwritten y = other_codes_write_nothing (sheet_for c (length before)) y 0 (sheet_besides c (length before))

    same : r₁ ≡ r₂
    same =
        a.result_is
        ∙ ap (λ (z : SizeOf). z.code)
        (outcomes_agree size_of (sheet_for c (length before)) (sheet_determines_size c (length before)) x a.outcome b.outcome a.fits b.fits)
        ∙ sym b.result_is
