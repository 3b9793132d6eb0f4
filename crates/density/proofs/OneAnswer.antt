-- One answer: two top densities of a constraint agree, two answer sets agree on every object, and 'none at K' is said in three ways
-- that mean the same. The lowest-numbered constraint above K is one, and it is there unless there is none at K. Assumes nothing.
use mathlib.Core.Path.{◌≡◌, sym, ◌∙◌, subst}
use mathlib.Core.Logic.{◌↔◌, ◌⊎◌, inl, inr}
use Prim.Native.Nat.{ℕ, zero, suc, ◌≤◌, ◌<◌}
use native.Mathlib.Nat.{le_antisymm, le_refl}
use native.Mathlib.Decide.{ℕ_discrete, dec_le}
use native.Mathlib.Omega.{arith}
use lib.Dec.{T}
use lib.IntN.{ℤ}
use lib.Signed.{◌≤ℤ◌, ◌<ℤ◌, clash_ℤ}
use Rattle.density.specs.Net.{Net, Proper, Set, Alike, holds}
use Rattle.density.specs.Density.{density, NoneDense}
use Rattle.density.specs.Top.{Reaches, Bound, Top, AnswerSet, HasAnswerSet, NoneAt, NoSetAbove, LowestAbove}
use Rattle.density.proofs.Tests.{same_test}
use Rattle.density.proofs.Holding.{holds_alike, density_alike}
use Rattle.density.proofs.Integers.{lt_or_le, ≤ℤ-antisym, ≤ℤ-trans}
use Rattle.density.proofs.Exists.{answer_exists}

-- a set that reaches a density is under every bound
pub reached_under : (d : Net) (c : ℕ) (t u : ℤ) (S : Set) → Reaches d c t S → Bound d c u → t ≤ℤ u
reached_under d c t u S r b = subst (λ (z : ℤ). z ≤ℤ u) r.density_is (b.no_denser S r.holding)

-- the density of an answer set is the top density
pub answer_top : (d : Net) (c : ℕ) (t : ℤ) (M : Set) → AnswerSet d c t M → Top d c t
answer_top d c t M a = record { set = M; reached = a.reached; greatest = a.greatest }

-- a constraint has one top density, and one answer set
pub tops_agree : (d : Net) (c : ℕ) (t u : ℤ) → Top d c t → Top d c u → t ≡ u
tops_agree d c t u p q =
    ≤ℤ-antisym t u (reached_under d c t u p.set p.reached q.greatest) (reached_under d c u t q.set q.reached p.greatest)

pub answers_agree : (d : Net) (c : ℕ) (t u : ℤ) (M R : Set) → AnswerSet d c t M → AnswerSet d c u R → (t ≡ u) × Alike d.objects M R
answers_agree d c t u M R a b = (same, λ v l. same_test (M v) (R v) (a.least R there v l) (b.least M back v l))
  where
    same : t ≡ u
    same = tops_agree d c t u (answer_top d c t M a) (answer_top d c u R b)

    there : Reaches d c t R
    there = subst (λ (z : ℤ). Reaches d c z R) (sym same) b.reached

    back : Reaches d c u M
    back = subst (λ (z : ℤ). Reaches d c z M) same a.reached

-- a set that agrees with the answer set on every object is the answer set
pub answer_alike : (d : Net) → Proper d → (c : ℕ) → c < d.constraints
    → (t : ℤ) (M R : Set) → Alike d.objects M R → AnswerSet d c t M → AnswerSet d c t R
answer_alike d ok c l t M R h a =
    record {
      reached =
          record {
            holding = subst T (holds_alike d ok M R h c l) a.reached.holding;
            density_is = sym (density_alike d ok M R h) ∙ a.reached.density_is;
          };
      greatest = a.greatest;
      least = λ S r v lv x. a.least S r v lv (subst T (sym (h v lv)) x);
    }

-- ---- none at K, said by constraints, by sets that hold one, and by dense sets

module _ (d : Net) (ok : Proper d) (K : ℤ) where
  pub none_no_set : NoneAt d K ↔ NoSetAbove d K
  none_no_set = (there, back)
    where
      there : NoneAt d K → NoSetAbove d K
      there none c l = record { no_denser = λ S h. under (answer_exists d ok c l) S h }
        where
          under : HasAnswerSet d c → (S : Set) → T (holds d S c) → density d S ≤ℤ K
          under a S h = ≤ℤ-trans (a.answer.greatest.no_denser S h) (none c a.top l (answer_top d c a.top a.set a.answer))

      back : NoSetAbove d K → NoneAt d K
      back under c t l top = reached_under d c t K top.set top.reached (under c l)

  pub no_set_none_dense : NoSetAbove d K ↔ NoneDense d K
  no_set_none_dense = (there, back)
    where
      there : NoSetAbove d K → NoneDense d K
      there under h = clash_ℤ h.dense.above ((under h.dense.some h.dense.is).no_denser h.set h.dense.held_by)

      back : NoneDense d K → NoSetAbove d K
      back none c l = record { no_denser = λ S h. go S h (lt_or_le K (density d S)) }
        where
          go : (S : Set) → T (holds d S c) → (K <ℤ density d S) ⊎ (density d S ≤ℤ K) → density d S ≤ℤ K
          go S h (inl a) = absurd (none (record { set = S; dense = record { above = a; some = c; is = l; held_by = h } }))
          go S h (inr b) = b

-- ---- the lowest-numbered constraint above K

pub lowest_one : (d : Net) (K : ℤ) (c e : ℕ) → LowestAbove d K c → LowestAbove d K e → c ≡ e
lowest_one d K c e p q =
    le_antisymm (p.lowest e q.top q.is q.top_is q.above) (q.lowest c p.top p.is p.top_is p.above)

-- none of the first k constraints is above K
abbrev pub NoneBelow : Net → ℤ → ℕ → Type 0
NoneBelow d K k = (e : ℕ) (t : ℤ) → e < k → Top d e t → t ≤ℤ K

-- a constraint above K with none above K before it is the lowest
pub lowest_so : (d : Net) (K : ℤ) (c : ℕ) (t : ℤ) → c < d.constraints → Top d c t → K <ℤ t → NoneBelow d K c → LowestAbove d K c
lowest_so d K c t l top above none =
    record { is = l; top = t; top_is = top; above = above; lowest = λ e u _ q higher. lowest e u q higher (dec_le c e) }
  where
    lowest : (e : ℕ) (u : ℤ) → Top d e u → K <ℤ u → Dec (c ≤ e) → c ≤ e
    lowest e u q higher (yes h) = h
    lowest e u q higher (no h) = clash_ℤ higher (none e u (omega arith) q)

-- and one that is not above K with none above K before it
pub none_up_to : (d : Net) (K : ℤ) (c : ℕ) (t : ℤ) → Top d c t → t ≤ℤ K → NoneBelow d K c → (e : ℕ) (u : ℤ) → e ≤ c → Top d e u → u ≤ℤ K
none_up_to d K c t top under none e u h q = go (ℕ_discrete e c)
  where
    go : Dec (e ≡ c) → u ≤ℤ K
    go (yes r) = subst (λ (z : ℤ). z ≤ℤ K) (tops_agree d c t u top (subst (λ (i : ℕ). Top d i u) r q)) under
    go (no r) = none e u (omega arith) q

module _ (d : Net) (ok : Proper d) (K : ℤ) where
  abbrev Lowest : Type 0
  Lowest = (c : ℕ) × LowestAbove d K c

  lowest_or_none_below : (k : ℕ) → k ≤ d.constraints → Lowest ⊎ NoneBelow d K k
  lowest_or_none_below zero l = inr (λ e t h _. absurd (omega arith))
  lowest_or_none_below (suc k) l = next (lowest_or_none_below k (omega arith)) (answer_exists d ok k l)
    where
      next : Lowest ⊎ NoneBelow d K k → HasAnswerSet d k → Lowest ⊎ NoneBelow d K (suc k)
      next (inl c) a = inl c
      next (inr none) a = go (lt_or_le K a.top)
        where
          top : Top d k a.top
          top = answer_top d k a.top a.set a.answer

          go : (K <ℤ a.top) ⊎ (a.top ≤ℤ K) → Lowest ⊎ NoneBelow d K (suc k)
          go (inl above) = inl (k, lowest_so d K k a.top l top above none)
          go (inr under) = inr (λ e t h q. none_up_to d K k a.top top under none e t (omega arith) q)

  pub lowest_or_none : ((c : ℕ) × LowestAbove d K c) ⊎ NoneAt d K
  lowest_or_none = lowest_or_none_below d.constraints (le_refl d.constraints)
