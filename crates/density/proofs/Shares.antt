-- What shares say about density. 01, 'Shares': "A sound sheet proves that no set holding c is denser than its claim."
-- A set that no route leaves and that is full outside c's ends has exactly the claim, and no route leaves any set that has it;
-- so the least set that no route leaves is the answer set. Assumes nothing.
mod Balance
use mathlib.Core.Path.{◌≡◌, sym, ◌∙◌, ap, ap₂, subst}
use Prim.Native.Nat.{ℕ, ◌+◌, ◌≤◌, ◌<◌}
use lib.Dec.{T, eqb}
use lib.IntN.{ℤ, pos, sub_ℕ, ◌-ℤ◌}
use lib.Signed.{◌≤ℤ◌}
use Rattle.density.specs.Sum.{counted}
use Rattle.density.specs.Net.{Net, Proper, Set, Side, first, second, holds, Inside}
use Rattle.density.specs.Density.{taken_by, free, density}
use Rattle.density.specs.Top.{Reaches, Bound, AnswerSet}
use Rattle.density.specs.Sheet.{Sheet, gives, gets, received, Sound, total, given, remainder, ends_weigh, claim}
use Rattle.density.specs.Closed.{Closed, AllFull}
use Rattle.density.proofs.Sums.{sum_same}
use Rattle.density.proofs.Integers.{le_of_cross, eq_of_cross, cross_of_eq, sub_less}
use Rattle.density.proofs.Shares.Balance.{cross_le, cross_eq, closed_if_even}

-- the claim as one difference
pub claim_is : (d : Net) (c : ℕ) (s : Sheet) → claim d c s ≡ sub_ℕ (total d) (given d s + ends_weigh d c)
unfolding claim remainder
claim_is d c s = sub_less (total d) (given d s) (ends_weigh d c)

-- what a sheet shows depends on the shares of the net's constraints alone
module _ (d : Net) (s r : Sheet) (same : (i : Side) (e : ℕ) → e < d.constraints → s i e ≡ r i e) where
  received_same : (v : ℕ) → received d s v ≡ received d r v
  unfolding received
  received_same v =
      sum_same d.constraints (gets d s v) (gets d r v)
      (λ e l.
      ap₂ (λ (x y : ℕ). counted (eqb (d.end first e) v) x + counted (eqb (d.end second e) v) y) (same first e l) (same second e l))

  gives_same : (e : ℕ) → e < d.constraints → gives s e ≡ gives r e
  gives_same e l = ap₂ ◌+◌ (same first e l) (same second e l)

  pub sound_same : (c : ℕ) → Sound d c s → Sound d c r
  sound_same c sound =
      record {
        fits = λ e l. subst (λ (x : ℕ). x ≤ d.takes e) (gives_same e l) (sound.fits e l);
        room = λ v l. subst (λ (x : ℕ). x ≤ d.weight v) (received_same v) (sound.room v l);
        bare = λ i. sym (received_same (d.end i c)) ∙ sound.bare i;
      }

  pub claim_same : (c : ℕ) → claim d c s ≡ claim d c r
  unfolding claim remainder given
  claim_same c = ap (λ (x : ℕ). sub_ℕ (total d) x -ℤ pos (ends_weigh d c)) (sum_same d.constraints (gives s) (gives r) gives_same)

module _ (d : Net) (ok : Proper d) (c : ℕ) (l : c < d.constraints) (s : Sheet) (sound : Sound d c s) where
  -- "A sound sheet proves that no set holding c is denser than its claim."
  pub sheet_bounds : Bound d c (claim d c s)
  unfolding density
  sheet_bounds =
      record {
        no_denser =
            λ S h.
            subst (λ (z : ℤ). density d S ≤ℤ z) (sym (claim_is d c s))
            (le_of_cross (taken_by d S) (free d S) (total d) (given d s + ends_weigh d c) (cross_le d ok c l s sound S h));
      }

  -- a set that holds c, that no route leaves and that is full outside c's ends has exactly the claim
  pub closed_reaches : (M : Set) → T (holds d M c) → Closed d s M → AllFull d c s M → Reaches d c (claim d c s) M
  unfolding density
  closed_reaches M h closed full =
      record {
        holding = h;
        density_is =
            eq_of_cross (taken_by d M) (free d M) (total d) (given d s + ends_weigh d c) (cross_eq d ok c l s sound M h closed full)
            ∙ sym (claim_is d c s);
      }

  -- and no route leaves a set that reaches the claim
  pub reaching_closed : (S : Set) → Reaches d c (claim d c s) S → Closed d s S
  unfolding density
  reaching_closed S r =
      closed_if_even d ok c l s sound S r.holding
      (cross_of_eq (taken_by d S) (free d S) (total d) (given d s + ends_weigh d c) (r.density_is ∙ claim_is d c s))

  -- so the least such set is the answer set
  pub least_closed_answers : (M : Set) → T (holds d M c) → Closed d s M → AllFull d c s M
      → ((S : Set) → T (holds d S c) → Closed d s S → Inside d M S) → AnswerSet d c (claim d c s) M
  least_closed_answers M h closed full least =
      record {
        reached = closed_reaches M h closed full;
        greatest = sheet_bounds;
        least = λ S r. least S r.holding (reaching_closed S r);
      }
