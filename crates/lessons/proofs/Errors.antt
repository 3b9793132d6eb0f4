-- The errors that students hand in (01), each shown to be an error by the definitions. Assumes nothing.
use mathlib.Core.Path.{◌≡◌, refl, subst}
use mathlib.Core.List.{List, [], ◌∷◌}
use mathlib.Core.Bool.{Bool, true, ◌&&◌, ◌||◌}
use Prim.Native.Nat.{ℕ, ◌<◌}
use lib.Dec.{T, eqb, ltb, leb, lt→ltb, leb→le, lit<}
use lib.IntN.{ℤ, pos}
use lib.Signed.{◌≤ℤ◌, ◌<ℤ◌, le_z_yes, lt_z_yes, <ℤ_irrefl}
use lib.ListN.{length}
use Rattle.density.specs.Sum.{sum, counted}
use Rattle.density.specs.Net.{Net, Set, Side, first, second}
use Rattle.density.specs.Density.{taken_by, free, density, Dense, NoneDense}
use Rattle.density.specs.Top.{Reaches, Top, AnswerSet}
use Rattle.density.specs.Sheet.{Sheet, gives, received, Sound, total, given, remainder, claim}
use Rattle.density.specs.Example.{none_at, dense_at, set_of, Correct, result_of}
use Rattle.density.proofs.OneAnswer.{answer_top, tops_agree, none_no_set, no_set_none_dense}
use Rattle.density.proofs.Tests.{implies, implied}
use Rattle.density.proofs.EveryNumber.{below_gives}
use Rattle.density.proofs.Example.{passed_correct}
use Rattle.drawing.specs.declared.Constraint.{Constraint}
use Rattle.drawing.specs.Choice.{pick}
use Rattle.drawing.specs.Entry.{Drawing}
use Rattle.drawing.specs.Table.{object_table, table_weight, allowed}
use Rattle.drawing.specs.Weight.{in_force, object_weight, constraint_weight}
use Rattle.drawing.specs.Samples.{distance}
use Rattle.net.specs.Weighed.{weighed}
use Rattle.lessons.specs.Small.{Line, example, points, minus, has, each, own, constraints_d, objects_d, B, C, I, J, L}
use Rattle.lessons.proofs.Table.{table_correct}

-- a density above the result is not the top density
too_high : (x : Line) → Correct (example x) → (c : ℕ) → c < length x.drawing.constraints → (u : ℤ) → (result_of (example x) c).density <ℤ u
    → Top (weighed x.drawing) c u → ⊥
unfolding weighed
too_high x r c l u above top = <ℤ_irrefl (subst (λ (z : ℤ). z <ℤ u) (tops_agree (weighed x.drawing) c t u result_top top) above)
  where
    t : ℤ
    t = (result_of (example x) c).density

    result_top : Top (weighed x.drawing) c t
    result_top = answer_top (weighed x.drawing) c t (set_of (result_of (example x) c).members) (r.answers c l)

-- "Table weight plus stated weight: L would give 0."
pub not_added : Top (weighed L.drawing) 0 (pos 0) → ⊥
not_added = too_high L (table_correct 11 (lit< tt)) 0 (lit< tt) (pos 0) (lt_z_yes tt)

-- "A constraint counted once at each end: B would give -2."
pub not_at_each_end : Top (weighed B.drawing) 0 (minus 2) → ⊥
not_at_each_end = too_high B (table_correct 1 (lit< tt)) 0 (lit< tt) (minus 2) (lt_z_yes tt)

-- "Testing the whole drawing only: I as a whole has density -5 and hides D."
abbrev whole : Set
whole v = true

pub whole_is_loose : density (weighed I.drawing) whole ≡ minus 5
unfolding density taken_by free sum weighed object_weight constraint_weight in_force object_table table_weight allowed pick
whole_is_loose = refl

pub hidden_is_dense : Dense (weighed I.drawing) (minus 3) (set_of objects_d)
unfolding density taken_by free sum weighed object_weight constraint_weight in_force object_table table_weight allowed pick
hidden_is_dense = record { above = lt_z_yes tt; some = 0; is = lit< tt; held_by = tt }

-- "Giving the largest tied set: J would give five objects."
abbrev five : Set
five = set_of (0 ∷ 1 ∷ 2 ∷ 3 ∷ 4 ∷ [])

pub five_tie : Reaches (weighed J.drawing) 6 (minus 3) five
unfolding density taken_by free sum weighed object_weight constraint_weight in_force object_table table_weight allowed pick
five_tie = record { holding = tt; density_is = refl }

pub five_are_no_answer : AnswerSet (weighed J.drawing) 6 (minus 3) five → ⊥
unfolding weighed
five_are_no_answer a = a.least (set_of (0 ∷ 4 ∷ [])) ((table_correct 9 (lit< tt)).answers 6 (lit< tt)).reached 1 (lit< tt) tt

-- "'At least K' for 'above K': C would be dense at -3."
pub C_has_three : minus 3 ≤ℤ density (weighed C.drawing) (set_of (0 ∷ 1 ∷ []))
unfolding density taken_by free sum weighed object_weight constraint_weight in_force object_table table_weight allowed pick
C_has_three = le_z_yes tt

pub C_is_not_dense : NoneDense (weighed C.drawing) (minus 3)
C_is_not_dense =
    (no_set_none_dense (weighed C.drawing) (table_correct 2 (lit< tt)).proper (minus 3)).0
    ((none_no_set (weighed C.drawing) (table_correct 2 (lit< tt)).proper (minus 3)).0 ((table_correct 2 (lit< tt)).said_so 0 (lit< tt)))

-- Any dense answers the lowest-numbered constraint above K, and not the densest: in 0-4, then D, at -4 it is constraint 0 with -3, although
-- the others have -2.
abbrev loose_first : Line
loose_first =
    record {
      drawing = points 5 (distance 0 4 ∷ constraints_d);
      results = has (minus 3) (0 ∷ 4 ∷ []) ∷ each 6 (minus 2) objects_d;
      said = dense_at (minus 4) 0 ∷ dense_at (minus 3) 1 ∷ none_at (minus 2) ∷ [];
    }

pub lowest_not_densest : Correct (example loose_first)
unfolding density taken_by free sum weighed object_weight constraint_weight in_force object_table table_weight allowed pick
lowest_not_densest = passed_correct (example loose_first) tt

-- "Taking the first set in which shares get stuck as the top one." In 0-1, 2-3, 2-4, 0-2 the two shares of 2-3 and 2-4 can both be put at
-- object 2. Then nothing more can be given: 0-2 alone has weight left besides 0-1, and both its ends are full. The sheet is sound for
-- constraint 0, and its claim is -2; but the top density is -3, which moving one share shows.
abbrev stuck_constraints : List Constraint
stuck_constraints = distance 0 1 ∷ distance 2 3 ∷ distance 2 4 ∷ distance 0 2 ∷ []

abbrev stuck_drawing : Drawing
stuck_drawing = points 5 stuck_constraints

abbrev stuck_line : Line
stuck_line = record { drawing = stuck_drawing; results = own (minus 3) stuck_constraints; said = [] }

-- a share of 1 for the first end of constraints 1 and 2, and no other
abbrev greedy : Sheet
greedy first e = counted (eqb e 1 || eqb e 2) 1
greedy second e = 0

-- v is full: it has no room, or it is an end of constraint 0
abbrev full : ℕ → Bool
full v = eqb (received (weighed stuck_drawing) greedy v) 2 || (eqb v 0 || eqb v 1)

-- nothing more can be given: a constraint with weight left has two full ends
pub greedy_is_stuck : (e : ℕ) → e < 4 → gives greedy e < (weighed stuck_drawing).takes e
    → T (full ((weighed stuck_drawing).end first e) && full ((weighed stuck_drawing).end second e))
unfolding received sum weighed object_weight constraint_weight in_force object_table table_weight allowed pick
greedy_is_stuck e l left =
    implied (ltb (gives greedy e) (d.takes e)) (full (d.end first e) && full (d.end second e))
    (below_gives 4 (λ e. implies (ltb (gives greedy e) (d.takes e)) (full (d.end first e) && full (d.end second e))) tt e l)
    (lt→ltb (gives greedy e) (d.takes e) left)
  where
    d : Net
    d = weighed stuck_drawing

pub greedy_is_sound : Sound (weighed stuck_drawing) 0 greedy
unfolding received sum weighed object_weight constraint_weight in_force object_table table_weight allowed pick
greedy_is_sound =
    record {
      fits = λ e l. leb→le (gives greedy e) (d.takes e) (below_gives 4 (λ e. leb (gives greedy e) (d.takes e)) tt e l);
      room = λ v l. leb→le (received d greedy v) (d.weight v) (below_gives 5 (λ v. leb (received d greedy v) (d.weight v)) tt v l);
      bare = bare;
    }
  where
    d : Net
    d = weighed stuck_drawing

    bare : (i : Side) → received d greedy (d.end i 0) ≡ 0
    bare first = refl
    bare second = refl

pub greedy_claims : claim (weighed stuck_drawing) 0 greedy ≡ minus 2
unfolding claim remainder total given sum weighed object_weight constraint_weight in_force object_table table_weight allowed pick
greedy_claims = refl

pub stuck_is_not_top : Top (weighed stuck_drawing) 0 (minus 2) → ⊥
unfolding density taken_by free sum weighed object_weight constraint_weight in_force object_table table_weight allowed pick
stuck_is_not_top = too_high stuck_line (passed_correct (example stuck_line) tt) 0 (lit< tt) (minus 2) (lt_z_yes tt)
