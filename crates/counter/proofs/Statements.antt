-- From what the functions of a question answer to its statement. Assumes nothing.
use mathlib.Core.Path.{◌≡◌, refl, sym, ◌∙◌, ap, ap₂, subst}
use mathlib.Core.Bool.{Bool, true, false}
use mathlib.Core.Logic.{inl, inr}
use mathlib.Core.List.{List, [], ◌++◌}
use Prim.Native.Nat.{ℕ}
use lib.Dec.{ltb}
use mir.Facts.{to_z-of_z}
use lib.IntN.{ℤ}
use lib.ListN.{length}
use Rattle.std.specs.Prelude.{Option, Some, None}
use Rattle.limits.specs.Limits.{most_objects}
use Rattle.density.specs.Net.{Net, Set}
use Rattle.density.specs.Top.{AnswerSet, Top, LowestAbove, NoneAt}
use Rattle.density.specs.Sheet.{Sound, claim}
use Rattle.density.proofs.Shares.{sound_same, claim_same}
use Rattle.density.proofs.OneAnswer.{answer_top}
use Rattle.codes.specs.declared.Answer.{Answer}
use Rattle.codes.specs.declared.Fault.{Fault}
use Rattle.codes.specs.Codes.{answer_number, fault_number}
use Rattle.records.specs.Read.{Reading}
use Rattle.settling.specs.declared.answer.Solution.{Solution}
use Rattle.arrays.specs.declared.NetArrays.{NetArrays}
use Rattle.arrays.specs.Arrays.{shares_in}
use Rattle.arrays.specs.Held.{net_held}
use Rattle.routes.specs.Marked.{members}
use Rattle.net.specs.declared.Counts.{Counts}
use Rattle.net.specs.Weighed.{weighed}
use Rattle.net.specs.NetFor.{Countable, AcceptedAs, HeldFor}
use Rattle.counter.specs.declared.block.Block.{Block}
use Rattle.counter.specs.Block.{two, block}
use Rattle.checker.specs.Sheet.{sheet_size, sheet_in}
use Rattle.counter.specs.Outcome.{says, answered, over, Question, Answers, asked_fault}
use Rattle.counter.specs.Question.{look_over, one_constraint, any_dense, sheet_for, check, BlockOf, Shows}
use Rattle.counter.specs.Counting.{SolvedIn, block_from, BlockIn, Sought}
use Rattle.counter.specs.Written.{block_bytes, FindingWritten, SheetWritten}
use Rattle.checker.specs.Checked.{Checked}
use Rattle.counter.proofs.Blocks.{block_within}
use Rattle.counter.proofs.Outcomes.{drawing_refuses, fault_said, answers}

-- the net of a drawing that was read can be counted
pub can_count : {x : Reading} {a : NetArrays} → HeldFor x a → Countable a
can_count stands = stands.countable

-- ---- look over

module _ {x : Reading} {c : Counts} (stands : AcceptedAs x c) where
  -- the fault of what is asked, by the counts
  counted_fault : (q : Question) → q.fault c.objects c.constraints ≡ asked_fault q stands.drawing
  counted_fault q = ap₂ q.fault (sym stands.objects_are) (sym stands.constraints_are)

  pub look_refuses : {before : List ℕ} (f : Fault) → fault_number f ≡ (look_over (length before)).fault c.objects c.constraints
      → Answers (look_over (length before)) x (fault_number f) before before
  look_refuses {before} f e = fault_said (look_over (length before)) stands.reading f (e ∙ counted_fault (look_over (length before)))

  pub looked_over : {before : List ℕ} → 0 ≡ (look_over (length before)).fault c.objects c.constraints
      → {after : List ℕ} → after ≡ over (two c.objects ++ two c.constraints) before → Answers (look_over (length before)) x 0 before after
  looked_over {before} e w =
      answers (look_over (length before)) stands.reading (e ∙ counted_fault (look_over (length before))) (answered (two c.objects ++ two c.constraints))
      (ap₂ (λ (i j : ℕ). answered (two i ++ two j)) (sym stands.objects_are) (sym stands.constraints_are)) w

-- ---- the other questions: the drawing's net is held

module _ {x : Reading} {a : NetArrays} (stands : HeldFor x a) where
  objects_are : length stands.drawing.objects ≡ a.objects
  unfolding weighed
  objects_are = ap (λ (g : Net). g.objects) stands.net_is

  constraints_are : length stands.drawing.constraints ≡ a.constraints
  unfolding weighed
  constraints_are = ap (λ (g : Net). g.constraints) stands.net_is

  held_fault : (q : Question) → q.fault a.objects a.constraints ≡ asked_fault q stands.drawing
  held_fault q = ap₂ q.fault (sym objects_are) (sym constraints_are)

  -- a fault of what is asked
  pub call_refuses : {q : Question} (f : Fault) → fault_number f ≡ q.fault a.objects a.constraints → {before : List ℕ}
      → Answers q x (fault_number f) before before
  call_refuses {q} f e = fault_said q stands.reading f (e ∙ held_fault q)

  -- the block of constraint c of the net is its block in the drawing
  block_for : {c : ℕ} {b : Block} → BlockIn a c b → BlockOf stands.drawing c (answered (block_bytes b))
  block_for {c} {b} block_in =
      record {
        top = block_in.top.density;
        set = set;
        answer = subst (λ (g : Net). AnswerSet g c block_in.top.density set) (sym stands.net_is) block_in.solved.answer;
        is = ap answered (ap block_bytes block_in.block_is ∙ narrow ∙ ap (λ (k : ℕ). block k c block_in.top.density set) (sym objects_are));
      }
    where
      set : Set
      set = members block_in.top.marks.objects

      narrow : block most_objects c block_in.top.density set ≡ block a.objects c block_in.top.density set
      narrow = block_within a.objects c block_in.top.density set a.fair.few_objects (λ v g. ap (ltb 0) (block_in.solved.outside v g))

  module _ {before : List ℕ} where
    -- ---- one constraint

    pub one_answered : {c : ℕ} → 0 ≡ (one_constraint c (length before)).fault a.objects a.constraints → {top : Solution} → SolvedIn a c top
        → {b : Block} → b ≡ block_from c top → {after : List ℕ} → after ≡ over (block_bytes b) before → Answers (one_constraint c (length before)) x 0 before after
    one_answered {c} e {top} solved {b} is w =
        answers (one_constraint c (length before)) stands.reading (e ∙ held_fault (one_constraint c (length before))) (answered (block_bytes b))
        (block_for (record { top = top; solved = solved; block_is = is })) w

    -- ---- the sheet

    pub sheet_answered : {c : ℕ} → 0 ≡ (sheet_for c (length before)).fault a.objects a.constraints → {top : Solution} → SolvedIn a c top
        → {after : List ℕ} → SheetWritten a.constraints top.shares before after → Answers (sheet_for c (length before)) x 0 before after
    sheet_answered {c} e {top} solved written =
        answers (sheet_for c (length before)) stands.reading (e ∙ held_fault (sheet_for c (length before))) (answered written.bytes)
        (record {
          bytes = written.bytes;
          long = written.long ∙ ap sheet_size (sym constraints_are);
          sound =
              subst (λ (g : Net). Sound g c (sheet_in written.bytes)) (sym stands.net_is)
              (sound_same (net_held a) (shares_in top.shares) (sheet_in written.bytes) (λ i e l. sym (written.shares_are i e l)) c solved.sound);
          top =
              subst (λ (g : Net). Top g c (claim g c (sheet_in written.bytes))) (sym stands.net_is)
              (subst (λ (t : ℤ). Top (net_held a) c t) shown (answer_top (net_held a) c top.density (members top.marks.objects) solved.answer));
          is = refl;
        })
        written.after_is
      where
        shown : top.density ≡ claim (net_held a) c (sheet_in written.bytes)
        shown =
            sym solved.claims ∙ claim_same (net_held a) (shares_in top.shares) (sheet_in written.bytes) (λ i e l. sym (written.shares_are i e l)) c

  -- ---- any dense: y is K as the code hands it on

  module _ {y k : ℤ} (same : y ≡ k) {before : List ℕ} where
    for_k : {code : ℕ} {after : List ℕ} → Answers (any_dense y (length before)) x code before after → Answers (any_dense k (length before)) x code before after
    for_k {code} {after} b = subst (λ (z : ℤ). Answers (any_dense z (length before)) x code before after) same b

    pub any_refuses : (f : Fault) → fault_number f ≡ (any_dense y (length before)).fault a.objects a.constraints
        → Answers (any_dense k (length before)) x (fault_number f) before before
    any_refuses f e = for_k (call_refuses f e)

    pub any_answered : 0 ≡ (any_dense y (length before)).fault a.objects a.constraints → (found : Option Block) → Sought a y found
        → (r : Answer) {after : List ℕ} → FindingWritten found before r after → Answers (any_dense k (length before)) x (answer_number r) before after
    any_answered e (Some b) sought r {after} written =
        for_k
        (subst (λ (r : Answer). Answers (any_dense y (length before)) x (answer_number r) before after) (sym written.0)
        (answers (any_dense y (length before)) stands.reading (e ∙ held_fault (any_dense y (length before))) (answered (block_bytes b))
        (inl
        (record {
          constraint = b.constraint;
          lowest = subst (λ (g : Net). LowestAbove g y b.constraint) (sym stands.net_is) sought.lowest;
          block_of = block_for sought.block_in;
        }))
        written.1))
    any_answered e None sought r {after} written =
        for_k
        (subst (λ (r : Answer). Answers (any_dense y (length before)) x (answer_number r) before after) (sym written.0)
        (answers (any_dense y (length before)) stands.reading (e ∙ held_fault (any_dense y (length before))) (says 32)
        (inr (record { none = subst (λ (g : Net). NoneAt g y) (sym stands.net_is) sought; is = refl })) written.1))

  -- ---- the check: y is the number claimed as the code hands it on

  module _ {c : ℕ} {b : List ℕ} {claimed : ℤ} (e : 0 ≡ (check c b claimed).fault a.objects a.constraints) {y : ℤ} (same : y ≡ claimed)
      {t : Bool} (checked : Checked a c b y t) where
    pub check_shows : t ≡ true → Answers (check c b claimed) x 0 [] []
    check_shows is =
        answers (check c b claimed) stands.reading (e ∙ held_fault (check c b claimed)) (says 0)
        (inl (
          record {
            sound = subst (λ (g : Net). Sound g c (sheet_in b)) (sym stands.net_is) (checked.sound is);
            claims = subst (λ (g : Net). claim g c (sheet_in b) ≡ claimed) (sym stands.net_is) (checked.claims is ∙ same);
          },
          refl,
        )) refl

    pub check_shows_not : t ≡ false → Answers (check c b claimed) x 33 [] []
    check_shows_not is =
        answers (check c b claimed) stands.reading (e ∙ held_fault (check c b claimed)) (says 33)
        (inr (not_shown, refl)) refl
      where
        not_shown : Shows stands.drawing c b claimed → ⊥
        not_shown shows =
            checked.else is (subst (λ (g : Net). Sound g c (sheet_in b)) stands.net_is shows.sound)
            (subst (λ (g : Net). claim g c (sheet_in b) ≡ claimed) stands.net_is shows.claims ∙ sym same)

-- ---- what each entry needs, under one name

pub ruleset look_over_laws = (drawing_refuses, look_refuses, looked_over)

pub ruleset one_constraint_laws = (drawing_refuses, call_refuses, one_answered)

pub ruleset any_dense_laws = (to_z-of_z, drawing_refuses, any_refuses, any_answered)

pub ruleset sheet_laws = (drawing_refuses, call_refuses, sheet_answered)

pub ruleset check_laws = (to_z-of_z, drawing_refuses, call_refuses, check_shows, check_shows_not)
