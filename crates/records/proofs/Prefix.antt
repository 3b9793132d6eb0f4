-- 01, of the report: "6,000 bytes at most; that prefix gives every longer input its refusal". Where k is at least the longest drawing and one
-- record more, bytes longer than k are refused, and their first k with the same number. Assumes nothing.
use mathlib.Core.Path.{◌≡◌, refl, sym, ◌∙◌, ap, subst}
use mathlib.Core.Bool.{Bool, false, not}
use mathlib.Core.List.{List, [], ◌∷◌}
use Prim.Native.Nat.{ℕ, zero, suc, ◌+◌, ◌*◌, ◌≤◌, ◌<◌, zero-le}
use native.Mathlib.Omega.{arith}
use borrow.Author.Tests.{lt-ltb, le-ltb}
use lib.Dec.{eqb, ltb}
use lib.ListN.{length, take, length-append}
use lib.Seq.{length-take-le, get_or-take}
use Rattle.limits.specs.Limits.{most_objects, most_constraints}
use Rattle.drawing.specs.Choice.{pick}
use Rattle.drawing.specs.Entry.{Drawing, empty_drawing, with_object, with_constraint}
use Rattle.drawing.specs.Fault.{object_fault_in, constraint_fault_in}
use Rattle.drawing.proofs.Choice.{row_bounds}
use Rattle.drawing.proofs.Faults.{object_sound, constraint_sound}
use Rattle.records.specs.Format.{byte_at, two_at, body_length, record_kind, next_record, known_kind, head_fault, body_of}
use Rattle.records.specs.Format.{head_size, constraint_body_size, an_object, a_constraint, an_end, Record, faulty, object, constraint, end, record_at}
use Rattle.records.specs.Read.{Reading, refused, accepted, unless, behind_fault, read_on, read_from, read}
use Rattle.records.specs.Longest.{object_record, longest_record, longest_drawing}
use Rattle.records.proofs.EnoughTurns.{enough}

-- both are refused, with one number
pub record RefusedAlike (x y : Reading) : Type 0 where
  pub number : ℕ
  pub one : x ≡ refused number
  pub other : y ≡ refused number

-- so they are for a fault, and else by what comes after
by_fault : (f : ℕ) {x y : Reading} → (f ≡ 0 → RefusedAlike x y) → RefusedAlike (unless f x) (unless f y)
by_fault zero on = on refl
by_fault (suc f) on = record { number = suc f; one = refl; other = refl }

body_most : (kind : ℕ) → body_length kind ≤ constraint_body_size
unfolding body_length
body_most kind = search row_bounds depth 9

module _ (s : List ℕ) (k : ℕ) (long : longest_drawing + longest_record ≤ k) (longer : k < length s) where
  abbrev t : List ℕ
  t = take k s

  t_length : length t ≡ k
  t_length = length-take-le k s (omega (arith, longer))

  same_byte : (i : ℕ) → i < k → byte_at s i ≡ byte_at t i
  same_byte i h = sym (get_or-take k s i 0 h)

  same_two : (i : ℕ) → i + 1 < k → two_at s i ≡ two_at t i
  unfolding two_at
  same_two i h = λ j. same_byte i (omega (arith, h)) j + 256 * same_byte (i + 1) h j

  -- where a whole record fits, both have the same record
  module _ (at : ℕ) (fits : at + longest_record ≤ k) where
    kind_same : record_kind s at ≡ record_kind t at
    kind_same = same_two (at + 2) (omega (arith, fits))

    -- neither is short
    enough_of : (l : List ℕ) → k ≤ length l → (n : ℕ) → n ≤ at + longest_record → ltb (length l) n ≡ false
    enough_of l h n m = le-ltb (length l) n (omega (arith, h, m, fits))

    s_long : k ≤ length s
    s_long = omega (arith, longer)

    t_long : k ≤ length t
    t_long = omega (arith, t_length)

    head_same : head_fault s at ≡ head_fault t at
    unfolding head_fault
    head_same = λ i.
        pick (short i) 1
        (pick (not (known_kind (kind_same i))) 2
        (pick (not (eqb (same_two at (omega (arith, fits)) i) (body_length (kind_same i)))) 3
        (pick (cut i) 1
        0)))
      where
        short : ltb (length s) (at + head_size) ≡ ltb (length t) (at + head_size)
        short = enough_of s s_long (at + head_size) (omega arith) ∙ sym (enough_of t t_long (at + head_size) (omega arith))

        next_fits : (kind : ℕ) → next_record at kind ≤ at + longest_record
        next_fits kind = omega (arith, body_most kind)

        cut : ltb (length s) (next_record at (record_kind s at)) ≡ ltb (length t) (next_record at (record_kind t at))
        cut = enough_of s s_long _ (next_fits (record_kind s at)) ∙ sym (enough_of t t_long _ (next_fits (record_kind t at)))

    body_same : body_of (record_kind s at) s (at + head_size) ≡ body_of (record_kind t at) t (at + head_size)
    body_same = λ i.
        pick (eqb (kind_same i) an_object)
        (object (record { kind = same_byte (at + head_size) (omega (arith, fits)) i; stated = same_byte (at + head_size + 1) (omega (arith, fits)) i }))
        (pick (eqb (kind_same i) a_constraint)
        (constraint
        (record {
          first = same_two (at + head_size) (omega (arith, fits)) i;
          second = same_two (at + head_size + 2) (omega (arith, fits)) i;
          kind = same_byte (at + head_size + 4) (omega (arith, fits)) i;
          stated = same_byte (at + head_size + 5) (omega (arith, fits)) i;
        }))
        end)

    record_same : record_at s at ≡ record_at t at
    unfolding record_at
    record_same = λ i. pick (eqb (head_same i) 0) (body_same i) (faulty (head_same i))

    -- both have bytes behind an end record here
    behind_same : (l : List ℕ) → k ≤ length l → behind_fault l (next_record at an_end) ≡ 9
    unfolding behind_fault body_length pick
    behind_same l h = ap (λ (b : Bool). pick b 9 0) (lt-ltb (next_record at an_end) (length l) (omega (arith, fits, h)))

  -- reading stands at the end of the entries of d, which are within the limits
  record StandsAt (at : ℕ) (d : Drawing) : Type 0 where
    is : at ≡ object_record * length d.objects + longest_record * length d.constraints
    few_objects : length d.objects ≤ most_objects
    few_constraints : length d.constraints ≤ most_constraints

  fits : (at : ℕ) (d : Drawing) → StandsAt at d → at + longest_record ≤ k
  fits at d here = omega (arith, here.is, here.few_objects, here.few_constraints, long)

  one_turn : (at : ℕ) (d : Drawing) → StandsAt at d → (r : Record) (on on' : ℕ → Drawing → Reading)
      → ((at' : ℕ) (d' : Drawing) → StandsAt at' d' → RefusedAlike (on at' d') (on' at' d'))
      → RefusedAlike (read_on s at d r on) (read_on t at d r on')
  unfolding body_length pick
  one_turn at d here (faulty n) on on' more = record { number = n; one = refl; other = refl }
  one_turn at d here (object o) on on' more =
      by_fault (object_fault_in d o)
      (λ none.
      more (next_record at an_object) (with_object d o)
      (record {
        is = omega (arith, here.is, length-append d.objects (o ∷ []));
        few_objects = omega (arith, length-append d.objects (o ∷ []), (object_sound _ _ o none).in_limit);
        few_constraints = here.few_constraints;
      }))
  one_turn at d here (constraint c) on on' more =
      by_fault (constraint_fault_in d c)
      (λ none.
      more (next_record at a_constraint) (with_constraint d c)
      (record {
        is = omega (arith, here.is, length-append d.constraints (c ∷ []));
        few_objects = here.few_objects;
        few_constraints = omega (arith, length-append d.constraints (c ∷ []), (constraint_sound _ _ _ _ c none).in_limit);
      }))
  one_turn at d here end on on' more =
      record {
        number = 9;
        one = ap (λ (f : ℕ). unless f (accepted d)) (behind_same at (fits at d here) s (omega (arith, longer)));
        other = ap (λ (f : ℕ). unless f (accepted d)) (behind_same at (fits at d here) t (omega (arith, t_length)));
      }

  turns_alike : (turns at : ℕ) (d : Drawing) → StandsAt at d → RefusedAlike (read_from turns s at d) (read_from turns t at d)
  unfolding read_from
  turns_alike zero at d here = record { number = 1; one = refl; other = refl }
  turns_alike (suc turns) at d here =
      subst (λ (r : Record). RefusedAlike (read_on s at d (record_at s at) (read_from turns s)) (read_on t at d r (read_from turns t)))
      (record_same at (fits at d here))
      (one_turn at d here (record_at s at) (read_from turns s) (read_from turns t) (turns_alike turns))

  -- the first k bytes of longer ones are refused as the whole is
  pub prefix_refused : RefusedAlike (read s) (read t)
  unfolding read
  prefix_refused =
      subst (RefusedAlike (read s)) (enough t (suc (length s)) (suc (length t)) 0 empty_drawing (omega (arith, longer, t_length)) (omega arith))
      (turns_alike (suc (length s)) 0 empty_drawing (record { is = refl; few_objects = zero-le; few_constraints = zero-le }))
