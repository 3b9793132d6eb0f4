-- What stands at an index of an array after a store, and of an array of zeros. Assumes nothing.
use mathlib.Core.Path.{◌≡◌}
use mathlib.Core.Logic.{◌≢◌, ⊎_elim}
use mathlib.Core.List.{List}
use Prim.Native.Nat.{ℕ, ◌<◌}
use native.Mathlib.Omega.{arith}
use lib.ListN.{length, set, replicate, length-replicate, get_or-replicate, get_or-eq_default}
use lib.Seq.{get_or-set_other}
use Rattle.std.proofs.lemmas.Bool.{cases_lt}
use Rattle.std.proofs.lemmas.Grind.{get_or-set_at}
use Rattle.arrays.specs.At.{at}

pub at_set_here : (l : List ℕ) (i y q : ℕ) → i < length l → q ≡ i → at (set l i y) q ≡ y
at_set_here l i y q b e = get_or-set_at l i q y 0 e b

pub at_set_off : (l : List ℕ) (i y q : ℕ) → q ≢ i → at (set l i y) q ≡ at l q
at_set_off l i y q n = get_or-set_other l i q y 0 n

pub at_zeros : (n i : ℕ) → at (replicate n 0) i ≡ 0
at_zeros n i =
    ⊎_elim
    (λ b. get_or-replicate n i 0 0 b)
    (λ c. get_or-eq_default (replicate n 0) 0 (omega (arith, length-replicate {A = ℕ} n 0)))
    (cases_lt i n)
