-- The four changes at work on small drawings: C renumbered, then reordered, then with ends exchanged; and H joined. Assumes nothing.
use mathlib.Core.Path.{◌≡◌, refl}
use mathlib.Core.Logic.{inl, inr}
use mathlib.Core.List.{[], ◌∷◌}
use Prim.Native.Nat.{ℕ, zero, suc, ◌-◌, ◌<◌}
use native.Mathlib.Omega.{arith}
use lib.Dec.{lit<}
use Rattle.density.specs.Sum.{sum}
use Rattle.density.specs.Listing.{Matching}
use Rattle.density.proofs.Example.{proper_passed}
use Rattle.drawing.specs.Choice.{pick}
use Rattle.drawing.specs.Entry.{Drawing}
use Rattle.drawing.specs.Table.{table_weight, allowed}
use Rattle.drawing.specs.Weight.{in_force, constraint_weight}
use Rattle.drawing.specs.Samples.{distance, stating}
use Rattle.net.specs.Weighed.{weighed}
use Rattle.net.specs.Change.{Renumbered, Reordered, Exchanged, Joined, renumbered, reordered, exchanged, joined}
use Rattle.net.specs.Change.{Changes, unchanged, made, undone, Becomes}
use Rattle.lessons.specs.Small.{points, C, H}

-- what holds of 0 holds below 1; with 1, below 2; with 2, below 3
one : (P : ℕ → Type 0) → P 0 → (e : ℕ) → e < 1 → P e
one P p zero l = p
one P p (suc e) l = absurd (omega (arith, l))

two : (P : ℕ → Type 0) → P 0 → P 1 → (e : ℕ) → e < 2 → P e
two P p q zero l = p
two P p q (suc e) l = one (λ k. P (suc k)) q e (omega (arith, l))

three : (P : ℕ → Type 0) → P 0 → P 1 → P 2 → (e : ℕ) → e < 3 → P e
three P p q r zero l = p
three P p q r (suc e) l = two (λ k. P (suc k)) q r e (omega (arith, l))

-- 0, 1, 2 are matched with 2, 1, 0
backwards : Matching 3 3 (λ v. 2 - v) (λ v. 2 - v)
backwards =
    record {
      to_below = three (λ v. 2 - v < 3) (lit< tt) (lit< tt) (lit< tt);
      from_below = three (λ v. 2 - v < 3) (lit< tt) (lit< tt) (lit< tt);
      from_to = three (λ v. 2 - (2 - v) ≡ v) refl refl refl;
      to_from = three (λ v. 2 - (2 - v) ≡ v) refl refl refl;
    }

-- C is 0-1, 1-2, 0-2. Its objects in the numbers 2, 1, 0
abbrev pub renumbered_c : Drawing
renumbered_c = points 3 (distance 2 1 ∷ distance 1 0 ∷ distance 2 0 ∷ [])

pub C_renumbered : Renumbered C.drawing renumbered_c
C_renumbered =
    record {
      to = λ v. 2 - v;
      from = λ v. 2 - v;
      matched = backwards;
      same_object = three _ refl refl refl;
      as_many = refl;
      same_constraint = three _ refl refl refl;
    }

-- then its constraints from the last to the first
abbrev pub reordered_c : Drawing
reordered_c = points 3 (distance 2 0 ∷ distance 1 0 ∷ distance 2 1 ∷ [])

pub C_reordered : Reordered renumbered_c reordered_c
C_reordered =
    record {
      same_objects = refl;
      to = λ e. 2 - e;
      from = λ e. 2 - e;
      matched = backwards;
      same_constraint = three _ refl refl refl;
    }

-- then the ends of the first one exchanged
abbrev pub exchanged_c : Drawing
exchanged_c = points 3 (distance 0 2 ∷ distance 1 0 ∷ distance 2 1 ∷ [])

pub C_exchanged : Exchanged reordered_c exchanged_c
C_exchanged =
    record { same_objects = refl; as_many = refl; either_way = three _ (inr refl) (inl refl) (inl refl) }

-- H is 0-1 twice. Joined, it is one distance 1-0 that states 2, the sum of their weights
abbrev pub joined_h : Drawing
joined_h = points 2 (stating 2 (distance 1 0) ∷ [])

pub H_joined : Joined H.drawing joined_h
unfolding sum constraint_weight in_force table_weight allowed pick
H_joined =
    record {
      same_objects = refl;
      into = λ e. 0;
      into_below = λ e _. lit< tt;
      one_at_least = one _ (0, lit< tt, refl);
      same_pair = two _ (inr (refl, refl)) (inr (refl, refl));
      summed = one _ refl;
    }

-- H joined and taken apart again: constraint 0 becomes both
pub H_changes : Changes H.drawing H.drawing
unfolding weighed
H_changes =
    made (proper_passed (weighed H.drawing) tt) (joined H_joined)
    (undone (proper_passed (weighed H.drawing) tt) (joined H_joined) unchanged)

pub H_becomes : Becomes H_changes 0 0 × Becomes H_changes 0 1
unfolding H_changes H_joined
H_becomes = ((0, lit< tt, refl, refl), (1, lit< tt, refl, refl))

-- C and its last form are a sequence of changes apart, and constraint 0 becomes constraint 2
pub C_changes : Changes C.drawing exchanged_c
unfolding weighed
C_changes =
    made (proper_passed (weighed C.drawing) tt) (renumbered C_renumbered)
    (made (proper_passed (weighed renumbered_c) tt) (reordered C_reordered)
    (made (proper_passed (weighed reordered_c) tt) (exchanged C_exchanged) unchanged))

pub C_becomes : Becomes C_changes 0 2
unfolding C_changes C_renumbered C_reordered C_exchanged
C_becomes = refl
