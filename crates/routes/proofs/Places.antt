-- Places: the two of a constraint, what stands there after a store, and loads and both shares of a constraint then. Assumes nothing.
use mathlib.Core.Path.{◌≡◌, refl, sym, ap, subst, ◌∙◌}
use mathlib.Core.Logic.{⊎_elim}
use mathlib.Core.List.{List}
use Prim.Native.Nat.{ℕ, ◌+◌, ◌-◌, ◌*◌, ◌/◌, ◌<◌, ◌≤◌}
use native.Mathlib.Omega.{arith}
use lib.ListN.{length, set}
use lib.Seq.{get_or-set_same}
use lib.Dec.{eqb}
use Rattle.density.specs.Sum.{sum, counted}
use Rattle.density.proofs.Sums.{counted_add, term_le}
use Rattle.arrays.specs.At.{at}
use Rattle.arrays.proofs.Stores.{at_set_here, at_set_off}
use Rattle.routes.specs.State.{both_shares, load}
use Rattle.routes.specs.Search.{lowered, raised}
use Rattle.std.proofs.lemmas.Bool.{cases_eq}
use Rattle.routes.proofs.Sums.{counted_here, counted_off, sum_differ_at}

-- each place of e is one of its two
pub by_place : (P : ℕ → Type 0) (e : ℕ) {i : ℕ} → i / 2 ≡ e → P (2 * e) → P (2 * e + 1) → P i
by_place P e {i} q one two =
    ⊎_elim (λ y. subst P (sym y) one) (λ n. let y : 2 * e + 1 ≡ i = omega arith in subst P y two) (cases_eq i (2 * e))

-- ---- what an object receives

load_set : (m : ℕ) (ends shares : List ℕ) (i y v : ℕ) → i < 2 * m → i < length shares
    → load m ends (set shares i y) v + counted (eqb (at ends i) v) (at shares i) ≡ load m ends shares v + counted (eqb (at ends i) v) y
unfolding load
load_set m ends shares i y v l b =
    sum_differ_at (2 * m) (λ x. counted (eqb (at ends x) v) (at (set shares i y) x)) (λ x. counted (eqb (at ends x) v) (at shares x)) i l
    (λ x n. ap (λ (z : ℕ). counted (eqb (at ends x) v) z) (at_set_off shares i y x n))
    ∙ ap (λ (z : ℕ). sum (2 * m) (λ x. counted (eqb (at ends x) v) (at shares x)) + counted (eqb (at ends i) v) z) (get_or-set_same shares i y 0 b)

pub load_raised : (m : ℕ) (ends shares : List ℕ) (i v : ℕ) → i < 2 * m → i < length shares
    → load m ends (raised i shares) v ≡ load m ends shares v + counted (eqb (at ends i) v) 1
load_raised m ends shares i v l b =
    omega (arith, load_set m ends shares i (at shares i + 1) v l b, counted_add (eqb (at ends i) v) (at shares i) 1)

pub load_lowered : (m : ℕ) (ends shares : List ℕ) (k v : ℕ) → k < 2 * m → k < length shares → 0 < at shares k
    → load m ends (lowered k shares) v + counted (eqb (at ends k) v) 1 ≡ load m ends shares v
load_lowered m ends shares k v l b p =
    let whole : at shares k - 1 + 1 ≡ at shares k = omega arith in
    omega (arith, load_set m ends shares k (at shares k - 1) v l b, counted_add (eqb (at ends k) v) (at shares k - 1) 1, ap (λ (z : ℕ). counted (eqb (at ends k) v) z) whole)

pub share_le_load : (m : ℕ) (ends shares : List ℕ) (i : ℕ) → i < 2 * m → at shares i ≤ load m ends shares (at ends i)
unfolding load
share_le_load m ends shares i l =
    omega (arith, term_le (2 * m) (λ x. counted (eqb (at ends x) (at ends i)) (at shares x)) i l, counted_here (at ends i) (at ends i) (at shares i) refl)

-- ---- what a constraint gives

both_set : (shares : List ℕ) (i y x : ℕ) → i < length shares
    → both_shares (set shares i y) x + counted (eqb (i / 2) x) (at shares i) ≡ both_shares shares x + counted (eqb (i / 2) x) y
both_set shares i y x b = grind (arith, at_set_here, at_set_off, counted_here, counted_off)

pub both_raised : (shares : List ℕ) (i x : ℕ) → i < length shares → both_shares (raised i shares) x ≡ both_shares shares x + counted (eqb (i / 2) x) 1
both_raised shares i x b =
    omega (arith, both_set shares i (at shares i + 1) x b, counted_add (eqb (i / 2) x) (at shares i) 1)

pub both_lowered : (shares : List ℕ) (k x : ℕ) → k < length shares → 0 < at shares k → both_shares (lowered k shares) x + counted (eqb (k / 2) x) 1 ≡ both_shares shares x
both_lowered shares k x b p =
    let whole : at shares k - 1 + 1 ≡ at shares k = omega arith in
    omega (arith, both_set shares k (at shares k - 1) x b, counted_add (eqb (k / 2) x) (at shares k - 1) 1, ap (λ (z : ℕ). counted (eqb (k / 2) x) z) whole)
