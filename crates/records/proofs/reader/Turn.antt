-- One turn of reading: where it stands, and what the record there leads to. Assumes nothing.
use mathlib.Core.Path.{◌≡◌, refl, sym, ap, ap₂, ◌∙◌, subst}
use mathlib.Core.List.{List}
use mathlib.Core.Bool.{Bool}
use Prim.Native.Nat.{ℕ, zero, suc, ◌+◌, ◌≤◌, ◌<◌, zero-le}
use native.Mathlib.Omega.{arith}
use borrow.Author.Tests.{lt-ltb, le-ltb}
use lib.ListN.{length}
use Rattle.codes.specs.declared.Fault.{Fault}
use Rattle.codes.specs.Codes.{fault_number}
use Rattle.codes.proofs.Numbers.{at_least_1}
use Rattle.drawing.specs.declared.Object.{Object}
use Rattle.drawing.specs.declared.Constraint.{Constraint}
use Rattle.drawing.specs.Choice.{pick}
use Rattle.drawing.specs.Entry.{Drawing, empty_drawing, with_object, with_constraint}
use Rattle.drawing.specs.Fault.{object_fault_in, constraint_fault_in}
use Rattle.records.specs.Format.{head_size, object_body_size, constraint_body_size, body_length, next_record, an_end}
use Rattle.records.specs.Format.{Record, faulty, object, constraint, end, record_at}
use Rattle.records.specs.Read.{Reading, refused, accepted, unless, behind_fault, read_on, read_from, read}
use Rattle.records.proofs.EnoughTurns.{turn}
use Rattle.records.proofs.RecordAt.{RecordFacts, record_facts}

-- reading stands at a position, after the entries of a drawing
pub record Stands (s : List ℕ) (at : ℕ) (d : Drawing) : Type 0 where
  pub within : at ≤ length s
  pub so_far : read s ≡ read_from (suc (length s)) s at d

pub starts : (s : List ℕ) → Stands s 0 empty_drawing
unfolding read
starts s = record { within = zero-le; so_far = refl }

-- a fault is a refusal, whatever comes after
by_fault : (n : ℕ) (x : Reading) → 1 ≤ n → unless n x ≡ refused n
by_fault zero x h = absurd (omega arith)
by_fault (suc n) x h = refl

module _ {s : List ℕ} {at : ℕ} {d : Drawing} (here : Stands s at d) where
  pub leads : (r : Record) → r ≡ record_at s at → read s ≡ read_on s at d r (read_from (suc (length s)) s)
  leads r e = here.so_far ∙ turn s at d ∙ ap (λ (x : Record). read_on s at d x (read_from (suc (length s)) s)) (sym e)

  facts : (r : Record) → r ≡ record_at s at → RecordFacts s at r
  facts r e = subst (RecordFacts s at) (sym e) (record_facts s at)

  refuses : (f : Fault) (n : ℕ) (x : Reading) → fault_number f ≡ n → read s ≡ unless n x → refused (fault_number f) ≡ read s
  refuses f n x e q = sym (q ∙ ap (λ (k : ℕ). unless k x) (sym e) ∙ by_fault (fault_number f) x (at_least_1 f))

  passes : (n : ℕ) (x : Reading) → 0 ≡ n → read s ≡ unless n x → read s ≡ x
  passes n x e q = q ∙ ap (λ (k : ℕ). unless k x) (sym e)

  -- a faulty record is refused with its number
  pub refuses_record : (f : Fault) → faulty (fault_number f) ≡ record_at s at → refused (fault_number f) ≡ read s
  refuses_record f e = sym (leads (faulty (fault_number f)) e)

  -- an object is refused with its fault, or is the last entry, and reading stands behind it
  pub refuses_object : (o : Object) (f : Fault) → object o ≡ record_at s at → fault_number f ≡ object_fault_in d o
      → refused (fault_number f) ≡ read s
  refuses_object o f e q = refuses f _ _ q (leads (object o) e)

  pub behind_object : (o : Object) (b : Drawing) → object o ≡ record_at s at → 0 ≡ object_fault_in d o → b ≡ with_object d o
      → Stands s (at + (head_size + object_body_size)) b
  unfolding body_length pick
  behind_object o b e q p = record {
    within = omega (arith, facts (object o) e);
    so_far = passes _ _ q (leads (object o) e) ∙ ap₂ (read_from (suc (length s)) s) (omega arith) (sym p);
  }

  -- so is a constraint
  pub refuses_constraint : (c : Constraint) (f : Fault) → constraint c ≡ record_at s at → fault_number f ≡ constraint_fault_in d c
      → refused (fault_number f) ≡ read s
  refuses_constraint c f e q = refuses f _ _ q (leads (constraint c) e)

  pub behind_constraint : (c : Constraint) (b : Drawing) → constraint c ≡ record_at s at → 0 ≡ constraint_fault_in d c → b ≡ with_constraint d c
      → Stands s (at + (head_size + constraint_body_size)) b
  unfolding body_length pick
  behind_constraint c b e q p = record {
    within = omega (arith, facts (constraint c) e);
    so_far = passes _ _ q (leads (constraint c) e) ∙ ap₂ (read_from (suc (length s)) s) (omega arith) (sym p);
  }

  -- at the end record: accepted, or refused for a byte behind it
  pub accepts : end ≡ record_at s at → length s ≤ at + head_size → accepted d ≡ read s
  unfolding body_length behind_fault pick
  accepts e h =
      sym (passes _ _ (sym (ap (λ (b : Bool). pick b 9 0) (le-ltb (next_record at an_end) (length s) (omega arith)))) (leads end e))

  pub refuses_behind : end ≡ record_at s at → at + head_size < length s → refused 9 ≡ read s
  unfolding body_length behind_fault pick
  refuses_behind e h =
      sym (leads end e ∙ ap (λ (b : Bool). unless (pick b 9 0) (accepted d)) (lt-ltb (next_record at an_end) (length s) (omega arith)))

-- for `search`: where reading starts, and how it ends
pub ruleset start_and_end = (starts, refuses_record, refuses_object, refuses_constraint, accepts, refuses_behind)
