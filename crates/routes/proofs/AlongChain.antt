-- A walk along the chain of an object, its last place first. Assumes nothing.
use mathlib.Core.Path.{◌≡◌, sym, subst}
use mathlib.Core.Logic.{◌⊎◌, inl, inr, ⊎_elim}
use mathlib.Core.List.{List}
use Prim.Native.Nat.{ℕ, suc, ◌-◌, ◌*◌, ◌<◌, ◌≤◌}
use native.Mathlib.Omega.{arith}
use Rattle.std.proofs.lemmas.Bool.{cases_lt, cases_eq}
use Rattle.limits.specs.Limits.{most_ends}
use Rattle.arrays.specs.At.{at}
use Rattle.routes.specs.Chains.{Last, Chained}

-- left is one more than the place of v that comes next, or 0 at the end of the chain
pub record OnChain (m v : ℕ) (ends : List ℕ) (left : ℕ) : Type 0 where
  pub within : left ≤ 2 * m
  pub there : (k : ℕ) → left ≡ suc k → at ends k ≡ v

-- a turn at the place k, the one before left
module _ {m v : ℕ} {ends head next : List ℕ} {left k : ℕ} (chained : Chained m ends head next) (on : OnChain m v ends left) (turn : left ≡ suc k) where
  pub turn_within : k < 2 * m
  turn_within = omega (arith, on.within)

  pub turn_place : k < most_ends
  turn_place = omega (arith, on.within, chained.few)

  module _ {left' : ℕ} (e : left' ≡ at next k) where
    before : Last ends v k left'
    before =
        subst (λ (p : ℕ). Last ends v k p) (sym e)
        (subst (λ (x : ℕ). Last ends x k (at next k)) (on.there k turn) (chained.nexts k turn_within))

    pub turn_on : OnChain m v ends left'
    turn_on = record {
      within = omega (arith, turn_within, before.within);
      there = λ p y.
          let there : at ends (left' - 1) ≡ v = before.there (omega arith) in
          subst (λ (x : ℕ). at ends x ≡ v) (omega arith) there;
    }

    -- a place of v from left' on is that of this turn, or one from left on
    pub turn_past : (q : ℕ) → left' ≤ q → at ends q ≡ v → (q ≡ k) ⊎ (left ≤ q)
    turn_past q b is =
        ⊎_elim
        (λ d. ⊎_elim inl (λ n. absurd (before.none_after q b (omega arith) is)) (cases_eq q k))
        inr
        (cases_lt q left)
