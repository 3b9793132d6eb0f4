-- What a reading comes to: refused with one of 01's numbers, or accepted with a sound drawing. Assumes nothing.
use mathlib.Core.Path.{◌≡◌, refl, sym, subst}
use mathlib.Core.List.{List, [], ◌∷◌, ◌++◌}
use Prim.Native.Nat.{ℕ, zero, suc, ◌≤◌, ◌<◌, zero-le}
use native.Mathlib.Omega.{arith}
use lib.Dec.{lit≤}
use lib.ListN.{length, get_or, length-append, get_or-append}
use borrow.Author.Count.{below_more}
use lib.Seq.{get_or-append_seam}
use Rattle.drawing.specs.declared.Object.{Object}
use Rattle.drawing.specs.declared.Constraint.{Constraint}
use Rattle.drawing.specs.Entry.{Drawing, kind_of, no_object, no_constraint, empty_drawing, with_object, with_constraint}
use Rattle.drawing.specs.Fault.{last_refusal, RefusalNumber, object_fault_in, constraint_fault_in}
use Rattle.records.specs.Format.{Record, faulty, object, constraint, end, record_at, next_record, an_end}
use Rattle.records.specs.Read.{Reading, refused, accepted, unless, behind_fault, read_on, read_from, read}
use Rattle.drawing.specs.Sound.{SoundObject, SoundConstraint, SoundDrawing, NextObject, NextConstraint}
use Rattle.drawing.proofs.Choice.{row_bounds}
use Rattle.drawing.proofs.Faults.{object_most, constraint_most, object_sound, constraint_sound}
use Rattle.records.proofs.RecordAt.{RecordFacts, record_facts}

-- what holds of every entry, and of one more behind them
one_more : {A : Type 0} (P : A → Type 0) (l : List A) (x d : A) → ((i : ℕ) → i < length l → P (get_or l i d)) → P x
    → (i : ℕ) → i < length (l ++ (x ∷ [])) → P (get_or (l ++ (x ∷ [])) i d)
one_more P l x d all here i h =
    below_more (λ (k : ℕ). P (get_or (l ++ (x ∷ [])) k d)) (length l)
    (λ (k : ℕ) (b : k < length l). subst P (sym (get_or-append l (x ∷ []) d k b)) (all k b))
    (subst P (sym (get_or-append_seam l x [] d)) here)
    i (omega (arith, length-append l (x ∷ [])))

empty_sound : SoundDrawing empty_drawing
empty_sound = record {
  few_objects = zero-le;
  few_constraints = zero-le;
  objects_sound = λ i h. absurd (omega arith);
  constraints_sound = λ e h. absurd (omega arith);
}

module _ (d : Drawing) (sound : SoundDrawing d) where
  object_read : (o : Object) → NextObject (length d.objects) (length d.constraints) o → SoundDrawing (with_object d o)
  object_read o fits = record {
    few_objects = omega (arith, length-append d.objects (o ∷ []), fits.in_limit);
    few_constraints = sound.few_constraints;
    objects_sound = one_more SoundObject d.objects o no_object sound.objects_sound fits.sound;
    constraints_sound = λ e h. absurd (omega (arith, fits.first_come));
  }

  constraint_read : (c : Constraint)
      → NextConstraint (length d.objects) (length d.constraints) (kind_of d c.first) (kind_of d c.second) c
      → SoundDrawing (with_constraint d c)
  constraint_read c fits = record {
    few_objects = sound.few_objects;
    few_constraints = omega (arith, length-append d.constraints (c ∷ []), fits.in_limit);
    objects_sound = sound.objects_sound;
    constraints_sound =
        one_more (λ (x : Constraint). SoundConstraint (length d.objects) (kind_of d x.first) (kind_of d x.second) x)
        d.constraints c no_constraint sound.constraints_sound fits.sound;
  }

-- what a reading says
abbrev ReadingFacts : Reading → Type 0
ReadingFacts (refused n) = RefusalNumber n
ReadingFacts (accepted d) = SoundDrawing d

-- refused for a fault, or what comes after
by_fault : (f : ℕ) (x : Reading) → f ≤ last_refusal → (f ≡ 0 → ReadingFacts x) → ReadingFacts (unless f x)
by_fault zero x most on = on refl
by_fault (suc f) x most on = record { least = omega arith; most = most }

module _ (s : List ℕ) where
  behind_most : (at : ℕ) → behind_fault s at ≤ last_refusal
  unfolding behind_fault
  behind_most at = search row_bounds

  one_turn : (at : ℕ) (d : Drawing) (r : Record) (on : ℕ → Drawing → Reading) → SoundDrawing d → RecordFacts s at r
      → ((at' : ℕ) (d' : Drawing) → SoundDrawing d' → ReadingFacts (on at' d')) → ReadingFacts (read_on s at d r on)
  one_turn at d (faulty n) on sound facts more = facts
  one_turn at d (object o) on sound facts more =
      by_fault (object_fault_in d o) _ (object_most _ _ o) (λ none. more _ _ (object_read d sound o (object_sound _ _ o none)))
  one_turn at d (constraint c) on sound facts more =
      by_fault (constraint_fault_in d c) _ (constraint_most _ _ _ _ c)
      (λ none. more _ _ (constraint_read d sound c (constraint_sound _ _ _ _ c none)))
  one_turn at d end on sound facts more = by_fault (behind_fault s (next_record at an_end)) (accepted d) (behind_most _) (λ none. sound)

  turns : (k at : ℕ) (d : Drawing) → SoundDrawing d → ReadingFacts (read_from k s at d)
  unfolding read_from
  turns zero at d sound = record { least = lit≤ tt; most = lit≤ tt }
  turns (suc k) at d sound = one_turn at d (record_at s at) (read_from k s) sound (record_facts s at) (turns k)

  reading_facts : ReadingFacts (read s)
  unfolding read
  reading_facts = turns (suc (length s)) 0 empty_drawing empty_sound

-- an accepted drawing: counts within the limits, kinds known, ends that name two different objects, a constraint that the table
-- allows between them, stated weights of at most 15
pub accepted_sound : (s : List ℕ) (d : Drawing) → read s ≡ accepted d → SoundDrawing d
accepted_sound s d e = subst ReadingFacts e (reading_facts s)

-- the number of a refused drawing is one of 01's
pub refused_number : (s : List ℕ) (n : ℕ) → read s ≡ refused n → RefusalNumber n
refused_number s n e = subst ReadingFacts e (reading_facts s)
