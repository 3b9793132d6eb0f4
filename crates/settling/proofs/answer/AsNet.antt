-- The arrays read as a net: its sides are places, what it holds, and what its objects receive. Assumes nothing.
use mathlib.Core.Path.{◌≡◌, sym}
use mathlib.Core.List.{List}
use Prim.Native.Nat.{ℕ, ◌+◌, ◌*◌, ◌/◌, ◌<◌}
use native.Mathlib.Omega.{arith}
use lib.Dec.{T, eqb, lt→ltb, ltb→lt}
use Rattle.density.specs.Sum.{counted}
use Rattle.density.specs.Net.{Proper, Set, Side, first, second, holds}
use Rattle.density.specs.Sheet as theory
use Rattle.density.proofs.Tests.{and_left, and_right, and_both}
use Rattle.arrays.specs.At.{at}
use Rattle.routes.specs.State.{BothIn, load}
use Rattle.arrays.specs.Arrays.{place, net_in, shares_in, Fair}
use Rattle.routes.specs.Marked.{Marked, members}
use Rattle.routes.proofs.Places.{by_place}
use Rattle.routes.proofs.Sums.{sum_pairs}

pub place_below : (m : ℕ) (i : Side) (e : ℕ) → e < m → place i e < 2 * m
place_below m first e b = omega arith
place_below m second e b = omega arith

pub place_half : (i : Side) (e : ℕ) → place i e / 2 ≡ e
place_half first e = omega arith
place_half second e = omega arith

-- a set that holds e has both its ends, and a set that has both holds it
pub holds_both : (n m : ℕ) (ends weights takes : List ℕ) (S : Set) (e : ℕ) → T (holds (net_in n m ends weights takes) S e) → BothIn ends S e
holds_both n m ends weights takes S e h i q =
    by_place (λ x. T (S (at ends x))) e q (and_left (S (at ends (2 * e))) (S (at ends (2 * e + 1))) h) (and_right (S (at ends (2 * e))) (S (at ends (2 * e + 1))) h)

pub both_holds : (n m : ℕ) (ends weights takes : List ℕ) (S : Set) (e : ℕ) → BothIn ends S e → T (holds (net_in n m ends weights takes) S e)
both_holds n m ends weights takes S e h = and_both (S (at ends (2 * e))) (S (at ends (2 * e + 1))) (h (2 * e) (omega arith)) (h (2 * e + 1) (omega arith))

pub member : (objects : List ℕ) (v : ℕ) → Marked objects v → T (members objects v)
member objects v h = lt→ltb 0 (at objects v) h

pub member_marked : (objects : List ℕ) (v : ℕ) → T (members objects v) → Marked objects v
member_marked objects v h = ltb→lt 0 (at objects v) h

-- what the theory says an object receives is its load
pub received_is : (n m : ℕ) (ends weights takes shares : List ℕ) (v : ℕ) → theory.received (net_in n m ends weights takes) (shares_in shares) v ≡ load m ends shares v
unfolding theory.received load
received_is n m ends weights takes shares v = sym (sum_pairs m (λ i. counted (eqb (at ends i) v) (at shares i)))

pub proper : (n m : ℕ) (ends weights takes : List ℕ) → Fair n m ends weights takes → Proper (net_in n m ends weights takes)
proper n m ends weights takes fair = record {
  named = λ i e b. fair.named (place i e) (place_below m i e b);
  apart = fair.apart;
}
