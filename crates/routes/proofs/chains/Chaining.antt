-- The chains as they are made, place by place. Assumes nothing.
use mathlib.Core.Path.{◌≡◌, sym, subst}
use mathlib.Core.List.{List}
use Prim.Native.Nat.{ℕ, ◌<◌}
use native.Mathlib.Omega.{arith}
use lib.ListN.{length, replicate, length-replicate}
use Rattle.limits.specs.Limits.{most_objects, most_ends}
use Rattle.arrays.specs.At.{at}
use Rattle.routes.specs.Chains.{Last}
use Rattle.arrays.proofs.Stores.{at_zeros}

-- the places below i are chained
pub record Chaining (ends head next : List ℕ) (i : ℕ) : Type 0 where
  pub head_long : length head ≡ most_objects
  pub next_long : length next ≡ most_ends
  pub heads : (v : ℕ) → v < most_objects → Last ends v i (at head v)
  pub nexts : (k : ℕ) → k < i → Last ends (at ends k) k (at next k)

pub chain_start : (ends : List ℕ) → Chaining ends (replicate most_objects 0) (replicate most_ends 0) 0
chain_start ends = record {
  head_long = length-replicate {A = ℕ} most_objects 0;
  next_long = length-replicate {A = ℕ} most_ends 0;
  heads = λ v b. subst (λ (p : ℕ). Last ends v 0 p) (sym (at_zeros most_objects v))
      (record { within = omega arith; there = λ h. absurd (omega arith); none_after = λ q a b. absurd (omega arith) });
  nexts = λ k b. absurd (omega arith);
}
