-- A test of an example that the prover computes, and the law that an example that passes it is correct. Assumes nothing.
use mathlib.Core.Path.{◌≡◌, sym, ap, ap₂, subst}
use mathlib.Core.Bool.{Bool, not, ◌&&◌}
use Prim.Native.Nat.{ℕ, ◌≤◌, ◌<◌}
use native.Mathlib.Nat.{le_refl}
use native.Mathlib.Omega.{arith}
use lib.Dec.{T, T_not, ltb, eqb, ltb→lt, eqb→eq}
use lib.IntN.{ℤ}
use lib.Signed.{◌≤ℤ◌, le_z, lt_z, le_z_yes, lt_z_yes, ≤ℤ_refl}
use lib.ListN.{length}
use Rattle.density.specs.Net.{Net, Proper, Set, Alike, Side, first, second, holds, Inside}
use Rattle.density.specs.Density.{density}
use Rattle.density.specs.Top.{Reaches, Top, AnswerSet}
use Rattle.density.specs.Example.{Example, Said, none_at, dense_at, set_of, result_of, said_at, IsSo, Correct}
use Rattle.density.proofs.Tests.{and_left, and_right, implies, implied, eq→eqb}
use Rattle.density.proofs.Integers.{≤ℤ-antisym}
use Rattle.density.proofs.Holding.{holds_alike, density_alike}
use Rattle.density.proofs.EveryNumber.{below, below_gives, below_same}
use Rattle.density.proofs.EverySet.{empty_set, every, every_set}
use Rattle.density.proofs.OneAnswer.{answer_top, tops_agree, NoneBelow, lowest_so}

-- ---- proper

abbrev pub apart_test : Net → ℕ → Bool
apart_test d e = not (eqb (d.end first e) (d.end second e))

abbrev pub ends_test : Net → ℕ → Bool
ends_test d e = ltb (d.end first e) d.objects && (ltb (d.end second e) d.objects && apart_test d e)

abbrev pub proper_test : Net → Bool
proper_test d = below d.constraints (ends_test d)

pub proper_passed : (d : Net) → T (proper_test d) → Proper d
proper_passed d t = record { named = named; apart = apart }
  where
    a : ℕ → Bool
    a e = ltb (d.end first e) d.objects

    b : ℕ → Bool
    b e = ltb (d.end second e) d.objects

    at : (e : ℕ) → e < d.constraints → T (ends_test d e)
    at = below_gives d.constraints (ends_test d) t

    rest : (e : ℕ) → e < d.constraints → T (b e && apart_test d e)
    rest e l = and_right (a e) (b e && apart_test d e) (at e l)

    named : (i : Side) (e : ℕ) → e < d.constraints → d.end i e < d.objects
    named first e l = ltb→lt (d.end first e) d.objects (and_left (a e) (b e && apart_test d e) (at e l))
    named second e l = ltb→lt (d.end second e) d.objects (and_left (b e) (apart_test d e) (rest e l))

    apart : (e : ℕ) → e < d.constraints → d.end first e ≡ d.end second e → ⊥
    apart e l q =
        T_not (eqb (d.end first e) (d.end second e)) (and_right (b e) (apart_test d e) (rest e l))
        (eq→eqb (d.end first e) (d.end second e) q)

-- ---- an answer set

abbrev inside_test : Net → Set → Set → Bool
inside_test d M S = below d.objects (λ v. implies (M v) (S v))

-- S is not denser than t, and contains M if it has t
abbrev bound_test : Net → ℤ → Set → Set → Bool
bound_test d t M S = le_z (density d S) t && implies (le_z t (density d S)) (inside_test d M S)

-- so it is if S holds c
abbrev set_test : Net → ℕ → ℤ → Set → Set → Bool
set_test d c t M S = implies (holds d S c) (bound_test d t M S)

abbrev answer_test : Net → ℕ → ℤ → Set → Bool
answer_test d c t M = holds d M c && (le_z t (density d M) && every d.objects (set_test d c t M) empty_set)

answer_passed : (d : Net) → Proper d → (c : ℕ) → c < d.constraints → (t : ℤ) (M : Set) → T (answer_test d c t M) → AnswerSet d c t M
answer_passed d ok c l t M passed =
    record {
      reached =
          record {
            holding = holding;
            density_is = ≤ℤ-antisym (density d M) t (under M holding) (le_z_yes (and_left reaching all rest));
          };
      greatest = record { no_denser = under };
      least = least;
    }
  where
    reaching : Bool
    reaching = le_z t (density d M)

    all : Bool
    all = every d.objects (set_test d c t M) empty_set

    holding : T (holds d M c)
    holding = and_left (holds d M c) (reaching && all) passed

    rest : T (reaching && all)
    rest = and_right (holds d M c) (reaching && all) passed

    looks : (S R : Set) → Alike d.objects S R → set_test d c t M S ≡ set_test d c t M R
    looks S R h =
        ap₂ implies (holds_alike d ok S R h c l)
        (ap₂ ◌&&◌ (ap (λ (z : ℤ). le_z z t) same)
        (ap₂ implies (ap (le_z t) same)
        (below_same d.objects (λ v. implies (M v) (S v)) (λ v. implies (M v) (R v)) (λ v lv. ap (implies (M v)) (h v lv)))))
      where
        same : density d S ≡ density d R
        same = density_alike d ok S R h

    at : (S : Set) → T (holds d S c) → T (bound_test d t M S)
    at S = implied (holds d S c) (bound_test d t M S) (every_set d.objects (set_test d c t M) looks (and_right reaching all rest) S)

    under : (S : Set) → T (holds d S c) → density d S ≤ℤ t
    under S h = le_z_yes (and_left (le_z (density d S) t) (implies (le_z t (density d S)) (inside_test d M S)) (at S h))

    least : (S : Set) → Reaches d c t S → Inside d M S
    least S r v lv = implied (M v) (S v) (below_gives d.objects (λ v. implies (M v) (S v)) inside v lv)
      where
        inside : T (inside_test d M S)
        inside =
            implied (le_z t (density d S)) (inside_test d M S)
            (and_right (le_z (density d S) t) (implies (le_z t (density d S)) (inside_test d M S)) (at S r.holding))
            (subst (λ (z : ℤ). T (le_z t z)) (sym r.density_is) (≤ℤ_refl t).le)

-- ---- what is said of a K

-- the results of the first m constraints are at most k
abbrev under_test : Example → ℤ → ℕ → Bool
under_test x k m = below m (λ e. le_z (result_of x e).density k)

abbrev said_test : Example → Said → Bool
said_test x (none_at k) = under_test x k x.net.constraints
said_test x (dense_at k c) = ltb c x.net.constraints && (lt_z k (result_of x c).density && under_test x k c)

module _ (x : Example) (top : (c : ℕ) → c < x.net.constraints → Top x.net c (result_of x c).density) where
  -- then so are their top densities
  under_passed : (k : ℤ) (m : ℕ) → m ≤ x.net.constraints → T (under_test x k m) → NoneBelow x.net k m
  under_passed k m some passed e t l q =
      subst (λ (z : ℤ). z ≤ℤ k) (tops_agree x.net e (result_of x e).density t (top e (omega arith)) q)
      (le_z_yes (below_gives m (λ e. le_z (result_of x e).density k) passed e l))

  said_passed : (s : Said) → T (said_test x s) → IsSo x.net s
  said_passed (none_at k) passed = under_passed k x.net.constraints (le_refl x.net.constraints) passed
  said_passed (dense_at k c) passed =
      lowest_so x.net k c (result_of x c).density is (top c is) (lt_z_yes (and_left above lower rest))
      (under_passed k c (omega (arith, is)) (and_right above lower rest))
    where
      named : Bool
      named = ltb c x.net.constraints

      above : Bool
      above = lt_z k (result_of x c).density

      lower : Bool
      lower = under_test x k c

      is : c < x.net.constraints
      is = ltb→lt c x.net.constraints (and_left named (above && lower) passed)

      rest : T (above && lower)
      rest = and_right named (above && lower) passed

-- ---- a whole example

abbrev answers_test : Example → ℕ → Bool
answers_test x c = answer_test x.net c (result_of x c).density (set_of (result_of x c).members)

abbrev pub correct_test : Example → Bool
correct_test x =
    proper_test x.net
    && (eqb (length x.results) x.net.constraints
    && (below x.net.constraints (answers_test x) && below (length x.said) (λ i. said_test x (said_at x i))))

pub passed_correct : (x : Example) → T (correct_test x) → Correct x
passed_correct x t =
    record {
      proper = proper;
      as_many = eqb→eq (length x.results) m (and_left p (q && r) t₁);
      answers = answers;
      said_so =
          λ i l.
          said_passed x (λ c lc. answer_top x.net c (result_of x c).density (set_of (result_of x c).members) (answers c lc))
          (said_at x i)
          (below_gives (length x.said) (λ i. said_test x (said_at x i)) (and_right q r t₂) i l);
    }
  where
    m : ℕ
    m = x.net.constraints

    p : Bool
    p = eqb (length x.results) m

    q : Bool
    q = below m (answers_test x)

    r : Bool
    r = below (length x.said) (λ i. said_test x (said_at x i))

    t₁ : T (p && (q && r))
    t₁ = and_right (proper_test x.net) (p && (q && r)) t

    t₂ : T (q && r)
    t₂ = and_right p (q && r) t₁

    proper : Proper x.net
    proper = proper_passed x.net (and_left (proper_test x.net) (p && (q && r)) t)

    answers : (c : ℕ) → c < m → AnswerSet x.net c (result_of x c).density (set_of (result_of x c).members)
    answers c l =
        answer_passed x.net proper c l (result_of x c).density (set_of (result_of x c).members)
        (below_gives m (answers_test x) (and_left q r t₂) c l)
