-- What a set holds, summed over pairs of objects instead of constraints. Assumes nothing.
use mathlib.Core.Path.{◌≡◌, sym, ◌∙◌, ap, ap₂}
use mathlib.Core.Bool.{◌&&◌}
use Prim.Native.Nat.{ℕ, ◌+◌, ◌<◌}
use lib.Dec.{eqb}
use Rattle.density.specs.Sum.{sum, counted}
use Rattle.density.specs.Net.{Net, Proper, Set, first, second}
use Rattle.density.specs.Density.{taken_by}
use Rattle.density.specs.Listing.{on_pair, pair_takes}
use Rattle.density.proofs.Sums.{sum_same, sum_add, sum_swap, sum_one, sum_at}
use Rattle.density.proofs.Sums.{counted_sum, counted_add, counted_both, counted_swap, counted_comm}
use Rattle.density.proofs.Holding.{taken_at}

-- f u v if both u and v are in S
abbrev pub in_pair : Set → (ℕ → ℕ → ℕ) → ℕ → ℕ → ℕ
in_pair S f u v = counted (S u && S v) (f u v)

-- the sum of f over the pairs of S
unfoldable pub pairs : ℕ → Set → (ℕ → ℕ → ℕ) → ℕ
pairs n S f = sum n (λ u. sum n (in_pair S f u))

pub pairs_same : (n : ℕ) (S : Set) (f g : ℕ → ℕ → ℕ) → ((u v : ℕ) → u < n → v < n → f u v ≡ g u v) → pairs n S f ≡ pairs n S g
unfolding pairs
pairs_same n S f g h =
    sum_same n (λ u. sum n (in_pair S f u)) (λ u. sum n (in_pair S g u))
    (λ u lu. sum_same n (in_pair S f u) (in_pair S g u) (λ v lv. ap (counted (S u && S v)) (h u v lu lv)))

pairs_add : (n : ℕ) (S : Set) (f g : ℕ → ℕ → ℕ) → pairs n S (λ u v. f u v + g u v) ≡ pairs n S f + pairs n S g
unfolding pairs
pairs_add n S f g =
    sum_same n (λ u. sum n (in_pair S (λ u v. f u v + g u v) u)) (λ u. sum n (in_pair S f u) + sum n (in_pair S g u))
    (λ u _.
    sum_same n (in_pair S (λ u v. f u v + g u v) u) (λ v. in_pair S f u v + in_pair S g u v) (λ v _. counted_add (S u && S v) (f u v) (g u v))
    ∙ sum_add n (in_pair S f u) (in_pair S g u))
    ∙ sum_add n (λ u. sum n (in_pair S f u)) (λ u. sum n (in_pair S g u))

-- the sum over pairs of a sum over constraints
pairs_sum : (n m : ℕ) (S : Set) (f : ℕ → ℕ → ℕ → ℕ) → pairs n S (λ u v. sum m (λ e. f e u v)) ≡ sum m (λ e. pairs n S (f e))
unfolding pairs
pairs_sum n m S f =
    sum_same n (λ u. sum n (in_pair S (λ u v. sum m (λ e. f e u v)) u)) (λ u. sum m (λ e. sum n (in_pair S (f e) u)))
    (λ u _.
    sum_same n (in_pair S (λ u v. sum m (λ e. f e u v)) u) (λ v. sum m (λ e. in_pair S (f e) u v))
    (λ v _. counted_sum (S u && S v) m (λ e. f e u v))
    ∙ sum_swap n m (λ v e. in_pair S (f e) u v))
    ∙ sum_swap n m (λ u e. sum n (in_pair S (f e) u))

-- q on one pair a, b
abbrev only_on : ℕ → ℕ → ℕ → ℕ → ℕ → ℕ
only_on a b q u v = counted (eqb a u && eqb b v) q

pairs_one : (n a b q : ℕ) (S : Set) → a < n → b < n → pairs n S (only_on a b q) ≡ counted (S a && S b) q
unfolding pairs
pairs_one n a b q S la lb =
    sum_same n (λ u. sum n (in_pair S (only_on a b q) u)) (λ u. counted (eqb a u) (counted (S u && S b) q)) (λ u _. row u)
    ∙ sum_one n a (λ u. counted (S u && S b) q) la
  where
    row : (u : ℕ) → sum n (in_pair S (only_on a b q) u) ≡ counted (eqb a u) (counted (S u && S b) q)
    row u =
        sum_same n (in_pair S (only_on a b q) u) (λ v. counted (S u && S v) (counted (eqb b v) (counted (eqb a u) q)))
        (λ v _. ap (counted (S u && S v)) (sym (counted_both (eqb a u) (eqb b v) q) ∙ counted_swap (eqb a u) (eqb b v) q))
        ∙ sum_at n b (counted (eqb a u) q) (λ v. S u && S v) lb
        ∙ counted_swap (S u && S b) (eqb a u) q

-- over the pairs of a set, both ways round, what the constraints take is twice what the set holds
pub taken_twice : (d : Net) → Proper d → (S : Set) → pairs d.objects S (pair_takes d) ≡ taken_by d S + taken_by d S
unfolding pair_takes taken_by
taken_twice d ok S =
    pairs_sum n m S (λ e u v. on_pair d u v e)
    ∙ sum_same m (λ e. pairs n S (λ u v. on_pair d u v e)) (λ e. taken_at d S e + taken_at d S e) each
    ∙ sum_add m (taken_at d S) (taken_at d S)
  where
    n : ℕ
    n = d.objects

    m : ℕ
    m = d.constraints

    each : (e : ℕ) → e < m → pairs n S (λ u v. on_pair d u v e) ≡ taken_at d S e + taken_at d S e
    each e l =
        pairs_add n S (only_on a b q) (λ u v. only_on a b q v u)
        ∙ ap₂ ◌+◌ (pairs_one n a b q S (ok.named first e l) (ok.named second e l))
        (pairs_same n S (λ u v. only_on a b q v u) (only_on b a q) (λ u v _ _. counted_comm (eqb a v) (eqb b u) q)
        ∙ pairs_one n b a q S (ok.named second e l) (ok.named first e l)
        ∙ counted_comm (S b) (S a) q)
      where
        a : ℕ
        a = d.end first e

        b : ℕ
        b = d.end second e

        q : ℕ
        q = d.takes e
