-- The two balances of a sheet, which carry all that shares say about density. Over the constraints: what a set holds and what is given
-- add up to no more than all weights and what lands in the set. Over the objects: what lands in the set and the weights of c's ends add
-- up to no more than its objects' weights. Both are equations exactly for the sets that no route leaves and that are full. Assumes nothing.
use mathlib.Core.Path.{◌≡◌, refl, sym, ◌∙◌, ap, ap₂, subst, subst₂}
use mathlib.Core.Logic.{◌≢◌, ◌⊎◌, inl, inr}
use mathlib.Core.Bool.{Bool, true, false, ◌&&◌}
use Prim.Native.Nat.{ℕ, ◌+◌, ◌-◌, ◌≤◌, ◌<◌}
use native.Mathlib.Decide.{ℕ_discrete}
use native.Mathlib.Omega.{arith}
use borrow.Author.Tests.{eq-eqb, ne_eqb}
use lib.Dec.{T, eqb}
use Rattle.density.specs.Sum.{sum, counted}
use Rattle.density.specs.Net.{Net, Proper, Set, Side, first, second, holds}
use Rattle.density.specs.Density.{taken_by, free}
use Rattle.density.specs.Sheet.{Sheet, gives, gets, received, Sound, total, given, ends_weigh}
use Rattle.density.specs.Closed.{Closed, AllFull}
use Rattle.density.proofs.Tests.{tested}
use Rattle.density.proofs.Sums.{sum_same, sum_le, sum_add, sum_gap, sum_swap, sum_one, sum_at}
use Rattle.density.proofs.Sums.{counted_add, counted_sum, counted_yes, counted_no}
use Rattle.density.proofs.Holding.{taken_at, free_at, end_in}

-- the shares of e that land in S
lands : Net → Sheet → Set → ℕ → ℕ
lands d s S e = counted (S (d.end first e)) (s first e) + counted (S (d.end second e)) (s second e)

-- all that lands in S, summed over the constraints, or over the objects
landed : Net → Sheet → Set → ℕ
landed d s S = sum d.constraints (lands d s S)

landed_is : (d : Net) → Proper d → (s : Sheet) (S : Set) → sum d.objects (λ v. counted (S v) (received d s v)) ≡ landed d s S
unfolding received landed lands
landed_is d ok s S =
    sum_same n (λ v. counted (S v) (received d s v)) (λ v. sum m (λ e. counted (S v) (gets d s v e)))
    (λ v _. counted_sum (S v) m (gets d s v))
    ∙ sum_swap n m (λ v e. counted (S v) (gets d s v e))
    ∙ sum_same m (λ e. sum n (λ v. counted (S v) (gets d s v e))) (lands d s S) each
  where
    n : ℕ
    n = d.objects

    m : ℕ
    m = d.constraints

    at : Side → ℕ → ℕ → ℕ
    at i e v = counted (S v) (counted (eqb (d.end i e) v) (s i e))

    each : (e : ℕ) → e < m → sum n (λ v. counted (S v) (gets d s v e)) ≡ lands d s S e
    each e l =
        sum_same n (λ v. counted (S v) (gets d s v e)) (λ v. at first e v + at second e v)
        (λ v _. counted_add (S v) (counted (eqb (d.end first e) v) (s first e)) (counted (eqb (d.end second e) v) (s second e)))
        ∙ sum_add n (at first e) (at second e)
        ∙ ap₂ (λ (x y : ℕ). x + y) (sum_at n (d.end first e) (s first e) S (ok.named first e l))
        (sum_at n (d.end second e) (s second e) S (ok.named second e l))

-- ---- the balance over the constraints: at one of them, with its ends in the set (p, r) or not, weight q and shares x, y

over : (p r : Bool) (q x y : ℕ) → x + y ≤ q → counted (p && r) q + (x + y) ≤ q + (counted p x + counted r y)
over true true q x y h = omega arith
over true false q x y h = omega arith
over false true q x y h = omega arith
over false false q x y h = omega arith

-- no route leaves the set at this constraint
record Stays (p r : Bool) (q x y : ℕ) : Type 0 where
  starts : x + y < q → T (p && r)
  first_on : T p → 0 < x → T (p && r)
  second_on : T r → 0 < y → T (p && r)

even : (p r : Bool) (q x y : ℕ) → x + y ≤ q → Stays p r q x y → counted (p && r) q + (x + y) ≡ q + (counted p x + counted r y)
even true true q x y h st = refl
even true false q x y h st = omega (arith, st.starts, st.first_on tt)
even false true q x y h st = omega (arith, st.starts, st.second_on tt)
even false false q x y h st = omega (arith, st.starts)

stays : (p r : Bool) (q x y : ℕ) → x + y ≤ q → q + (counted p x + counted r y) ≤ counted (p && r) q + (x + y) → Stays p r q x y
stays true true q x y h e = record { starts = λ _. tt; first_on = λ _ _. tt; second_on = λ _ _. tt }
stays true false q x y h e = record { starts = λ l. omega arith; first_on = λ _ l. omega arith; second_on = λ t _. t }
stays false true q x y h e = record { starts = λ l. omega arith; first_on = λ t _. t; second_on = λ _ l. omega arith }
stays false false q x y h e = record { starts = λ l. omega arith; first_on = λ t _. t; second_on = λ t _. t }

-- ---- both balances, for a set that holds c and a sheet that is sound for c

-- the weight of v where it is an end of c
end_weight : Net → ℕ → ℕ → ℕ
end_weight d c v = counted (eqb (d.end first c) v) (d.weight v) + counted (eqb (d.end second c) v) (d.weight v)

-- an object is an end of c, bare and in the set, or it is none
data Place (d : Net) (c : ℕ) (s : Sheet) (S : Set) (v : ℕ) : Type 0 where
  an_end : T (S v) → received d s v ≡ 0 → end_weight d c v ≡ d.weight v → Place d c s S v
  no_end : v ≢ d.end first c → v ≢ d.end second c → end_weight d c v ≡ 0 → Place d c s S v

module _ (d : Net) (ok : Proper d) (c : ℕ) (l : c < d.constraints) (s : Sheet) (sound : Sound d c s) (S : Set) (hc : T (holds d S c)) where
  place : (v : ℕ) → Place d c s S v
  unfolding end_weight
  place v = go (ℕ_discrete (d.end first c) v) (ℕ_discrete (d.end second c) v)
    where
      w : ℕ
      w = d.weight v

      bare_there : (i : Side) → d.end i c ≡ v → end_weight d c v ≡ w → Place d c s S v
      bare_there i e =
          an_end (subst (λ (u : ℕ). T (S u)) e (end_in d S c hc i)) (subst (λ (u : ℕ). received d s u ≡ 0) e (sound.bare i))

      yes_counted : (i : Side) → d.end i c ≡ v → counted (eqb (d.end i c) v) w ≡ w
      yes_counted i e = ap (λ (b : Bool). counted b w) (eq-eqb (d.end i c) v e)

      not_counted : (i : Side) → d.end i c ≢ v → counted (eqb (d.end i c) v) w ≡ 0
      not_counted i n = ap (λ (b : Bool). counted b w) (ne_eqb (d.end i c) v n)

      go : Dec (d.end first c ≡ v) → Dec (d.end second c ≡ v) → Place d c s S v
      go (yes e) (yes f) = absurd (ok.apart c l (e ∙ sym f))
      go (yes e) (no f) = bare_there first e (omega (arith, yes_counted first e, not_counted second f))
      go (no e) (yes f) = bare_there second f (omega (arith, not_counted first e, yes_counted second f))
      go (no e) (no f) = no_end (λ q. e (sym q)) (λ q. f (sym q)) (omega (arith, not_counted first e, not_counted second f))

  ends_sum : sum d.objects (end_weight d c) ≡ ends_weigh d c
  unfolding end_weight
  ends_sum =
      sum_add d.objects (λ v. counted (eqb (d.end first c) v) (d.weight v)) (λ v. counted (eqb (d.end second c) v) (d.weight v))
      ∙ ap₂ (λ (x y : ℕ). x + y) (sum_one d.objects (d.end first c) d.weight (ok.named first c l))
      (sum_one d.objects (d.end second c) d.weight (ok.named second c l))

  -- over the objects
  object_side : ℕ → ℕ
  object_side v = counted (S v) (received d s v) + end_weight d c v

  object_sum : sum d.objects object_side ≡ landed d s S + ends_weigh d c
  unfolding object_side
  object_sum =
      sum_add d.objects (λ v. counted (S v) (received d s v)) (end_weight d c)
      ∙ ap₂ (λ (x y : ℕ). x + y) (landed_is d ok s S) ends_sum

  -- what is missing at v: nothing where the set is full
  record Missing (v : ℕ) : Type 0 where
    room : ℕ
    is : object_side v + room ≡ free_at d S v
    none_if_full : AllFull d c s S → room ≡ 0

  missing : (v : ℕ) → v < d.objects → Missing v
  unfolding object_side
  missing v lv = go (place v) (tested (S v))
    where
      go : Place d c s S v → T (S v) ⊎ (T (S v) → ⊥) → Missing v
      go (an_end t r e) h =
          record {
            room = 0;
            is = omega (arith, counted_yes (S v) (received d s v) t, counted_yes (S v) (d.weight v) t);
            none_if_full = λ _. refl;
          }
      go (no_end a b e) (inl t) =
          record {
            room = d.weight v - received d s v;
            is = omega (arith, counted_yes (S v) (received d s v) t, counted_yes (S v) (d.weight v) t, sound.room v lv);
            none_if_full = λ full. omega (arith, full v lv t a b);
          }
      go (no_end a b e) (inr n) =
          record {
            room = 0;
            is = omega (arith, counted_no (S v) (received d s v) n, counted_no (S v) (d.weight v) n);
            none_if_full = λ _. refl;
          }

  object_le : landed d s S + ends_weigh d c ≤ free d S
  unfolding free
  object_le =
      subst (λ (x : ℕ). x ≤ free d S) object_sum
      (sum_le d.objects object_side (free_at d S) (λ v lv. omega (arith, (missing v lv).is)))

  object_eq : AllFull d c s S → landed d s S + ends_weigh d c ≡ free d S
  unfolding free
  object_eq full =
      sym object_sum
      ∙ sum_same d.objects object_side (free_at d S)
      (λ v lv. omega (arith, (missing v lv).is, (missing v lv).none_if_full full))

  -- over the constraints
  lesser : ℕ → ℕ
  lesser e = taken_at d S e + gives s e

  greater : ℕ → ℕ
  greater e = d.takes e + lands d s S e

  lesser_sum : sum d.constraints lesser ≡ taken_by d S + given d s
  unfolding lesser taken_by given
  lesser_sum = sum_add d.constraints (taken_at d S) (gives s)

  greater_sum : sum d.constraints greater ≡ total d + landed d s S
  unfolding greater total landed
  greater_sum = sum_add d.constraints d.takes (lands d s S)

  lesser_le : (e : ℕ) → e < d.constraints → lesser e ≤ greater e
  unfolding lesser greater lands
  lesser_le e le = over (S (d.end first e)) (S (d.end second e)) (d.takes e) (s first e) (s second e) (sound.fits e le)

  constraint_le : taken_by d S + given d s ≤ total d + landed d s S
  constraint_le = subst₂ ◌≤◌ lesser_sum greater_sum (sum_le d.constraints lesser greater lesser_le)

  constraint_eq : Closed d s S → taken_by d S + given d s ≡ total d + landed d s S
  unfolding lesser greater lands
  constraint_eq closed = sym lesser_sum ∙ sum_same d.constraints lesser greater each ∙ greater_sum
    where
      each : (e : ℕ) → e < d.constraints → lesser e ≡ greater e
      each e le =
          even (S (d.end first e)) (S (d.end second e)) (d.takes e) (s first e) (s second e) (sound.fits e le)
          (record { starts = closed.starts e le; first_on = closed.goes_on first e le; second_on = closed.goes_on second e le })

  -- "A sound sheet proves that no set holding c is denser than its claim."
  pub cross_le : taken_by d S + (given d s + ends_weigh d c) ≤ total d + free d S
  cross_le = omega (arith, constraint_le, object_le)

  -- a set that no route leaves and that is full has the claim
  pub cross_eq : Closed d s S → AllFull d c s S → taken_by d S + (given d s + ends_weigh d c) ≡ total d + free d S
  cross_eq closed full = omega (arith, constraint_eq closed, object_eq full)

  -- no route leaves a set that has the claim
  pub closed_if_even : taken_by d S + (given d s + ends_weigh d c) ≡ total d + free d S → Closed d s S
  unfolding lesser greater lands
  closed_if_even eq = record { starts = λ e le. (at e le).starts; goes_on = on }
    where
      at : (e : ℕ) → e < d.constraints → Stays (S (d.end first e)) (S (d.end second e)) (d.takes e) (s first e) (s second e)
      at e le =
          stays (S (d.end first e)) (S (d.end second e)) (d.takes e) (s first e) (s second e) (sound.fits e le)
          (omega (arith, sum_gap d.constraints lesser greater lesser_le e le, lesser_sum, greater_sum, object_le))

      on : (i : Side) (e : ℕ) → e < d.constraints → T (S (d.end i e)) → 0 < s i e → T (holds d S e)
      on first e le = (at e le).first_on
      on second e le = (at e le).second_on
