-- The drawing in the arrays: how many entries it has, what stands at each number, and that it is what contracts see of the entries.
-- Assumes nothing.
use mathlib.Core.Path.{◌≡◌, sym, ap, ap₂, ◌∙◌}
use mathlib.Core.List.{List}
use Prim.Native.Nat.{ℕ, ◌-◌, ◌≤◌, ◌<◌}
use native.Mathlib.Decide.{dec_lt}
use native.Mathlib.Omega.{arith}
use lib.ListN.{length, take, replicate, get_or, get_or-eq_default}
use lib.Seq.{take-append_seam}
use Rattle.limits.specs.Limits.{most_objects, most_constraints}
use Rattle.std.proofs.lemmas.List.{length-take-le, get_or-take, ext_get_or}
use Rattle.drawing.specs.declared.Object.{Object}
use Rattle.drawing.specs.declared.Constraint.{Constraint}
use Rattle.drawing.specs.Tabulated.{tabulated}
use Rattle.drawing.specs.Entry.{Drawing, object_at, constraint_at, kind_of, no_object, no_constraint}
use Rattle.drawing.specs.EntryArrays.{drawing_in, Tidy}
use Rattle.drawing.specs.Padded.{padded}
use Rattle.drawing.proofs.Fronts.{length_padded, padded_get}
use Rattle.drawing.proofs.Tabulated.{length_tabulated, get_or_tabulated}

module _ (n m : ℕ) (objects : List Object) (constraints : List Constraint) where
  pub objects_count : length (drawing_in n m objects constraints).objects ≡ n
  unfolding drawing_in
  objects_count = length_tabulated n (λ i. get_or objects i no_object)

  pub constraints_count : length (drawing_in n m objects constraints).constraints ≡ m
  unfolding drawing_in
  constraints_count = length_tabulated m (λ e. get_or constraints e no_constraint)

  pub object_is : (i : ℕ) → i < n → object_at (drawing_in n m objects constraints) i ≡ get_or objects i no_object
  unfolding drawing_in
  object_is i h = get_or_tabulated n (λ i. get_or objects i no_object) no_object i h

  pub constraint_is : (e : ℕ) → e < m → constraint_at (drawing_in n m objects constraints) e ≡ get_or constraints e no_constraint
  unfolding drawing_in
  constraint_is e h = get_or_tabulated m (λ e. get_or constraints e no_constraint) no_constraint e h

  -- the kind of any object, or 0 where there is none
  pub kind_is : Tidy n m objects constraints → (i : ℕ) → kind_of (drawing_in n m objects constraints) i ≡ (get_or objects i no_object).kind
  kind_is tidy i =
      ap (λ (o : Object). o.kind)
      (elim (dec_lt i n) [
        | yes l ↦ object_is i l
        | no g ↦
            get_or-eq_default (drawing_in n m objects constraints).objects no_object {n = i} (omega (arith, objects_count))
            ∙ sym (tidy.objects_past i (omega arith))
      ])

-- what stands at the front of an array, number by number, is what contracts see of a `Padded`
front_is : {A : Type 0} (n : ℕ) (l : List A) (d : A) → n ≤ length l → tabulated n (λ i. get_or l i d) ≡ take n l
front_is n l d few =
    ext_get_or d (tabulated n (λ i. get_or l i d)) (take n l) (length_tabulated n (λ i. get_or l i d) ∙ sym (length-take-le n l few))
    (λ i h.
    let below : i < n = omega (arith, length_tabulated n (λ i. get_or l i d)) in
    get_or_tabulated n (λ i. get_or l i d) d i below ∙ sym (get_or-take n l i d below))

-- so the drawing in the arrays is what they see of the entries
pub entries_seen : (n m : ℕ) (objects : List Object) (constraints : List Constraint) → n ≤ length objects → m ≤ length constraints
    → drawing_in n m objects constraints ≡ record { objects = take n objects; constraints = take m constraints }
unfolding drawing_in
entries_seen n m objects constraints few_objects few_constraints =
    ap₂ (λ (os : List Object) (cs : List Constraint). record { objects = os; constraints = cs }) (front_is n objects no_object few_objects)
    (front_is m constraints no_constraint few_constraints)

-- and the arrays that entries are in, with their blanks, are tidy and hold the drawing
module _ (d : Drawing) (few_objects : length d.objects ≤ most_objects) (few_constraints : length d.constraints ≤ most_constraints) where
  pub entries_tidy : Tidy (length d.objects) (length d.constraints) (padded no_object most_objects d.objects) (padded no_constraint most_constraints d.constraints)
  entries_tidy = record {
    few_objects = few_objects;
    few_constraints = few_constraints;
    objects_long = length_padded no_object most_objects d.objects few_objects;
    constraints_long = length_padded no_constraint most_constraints d.constraints few_constraints;
    objects_past = λ i h. padded_get no_object most_objects d.objects i ∙ get_or-eq_default d.objects no_object {n = i} h;
    constraints_past = λ e h. padded_get no_constraint most_constraints d.constraints e ∙ get_or-eq_default d.constraints no_constraint {n = e} h;
  }

  pub entries_in : drawing_in (length d.objects) (length d.constraints) (padded no_object most_objects d.objects) (padded no_constraint most_constraints d.constraints) ≡ d
  entries_in =
      entries_seen (length d.objects) (length d.constraints) (padded no_object most_objects d.objects) (padded no_constraint most_constraints d.constraints)
      (omega (arith, few_objects, entries_tidy.objects_long))
      (omega (arith, few_constraints, entries_tidy.constraints_long))
      ∙ ap₂ (λ (os : List Object) (cs : List Constraint). record { objects = os; constraints = cs })
      (take-append_seam d.objects (replicate (most_objects - length d.objects) no_object))
      (take-append_seam d.constraints (replicate (most_constraints - length d.constraints) no_constraint))
