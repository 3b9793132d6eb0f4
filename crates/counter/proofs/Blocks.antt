-- A block depends on the constraint, the density and which objects are in the set, and on nothing else. Assumes nothing.
use mathlib.Core.Path.{◌≡◌, refl, sym, ◌∙◌, ap, ap₂}
use mathlib.Core.Bool.{Bool, true, false, ◌&&◌, and-false}
use mathlib.Core.List.{List, ◌++◌}
use Prim.Native.Nat.{ℕ, ◌+◌, ◌*◌, ◌^◌, ◌≤◌}
use mathlib.Core.Logic.{⊎_elim}
use native.Mathlib.Omega.{arith}
use borrow.Author.Tests.{ltb-true, lt-ltb}
use lib.Dec.{ltb}
use lib.IntN.{ℤ}
use Rattle.density.specs.Sum.{counted}
use Rattle.density.specs.Net.{Set, Alike}
use Rattle.density.proofs.Sums.{sum_same}
use Rattle.limits.specs.Limits.{most_objects}
use Rattle.std.proofs.lemmas.Bool.{cases_lt}
use Rattle.drawing.proofs.Tabulated.{tabulated_same}
use Rattle.counter.specs.Block.{set_byte, set_bytes, set_size, block, two, complement}

-- a test that is looked at below n alone
masked : (n : ℕ) (S R : Set) → Alike n S R → (v : ℕ) → (ltb v n && S v) ≡ (ltb v n && R v)
masked n S R h v = go (ltb v n) refl
  where
    go : (b : Bool) → ltb v n ≡ b → (b && S v) ≡ (b && R v)
    go true e = h v (ltb-true v n e)
    go false e = refl

-- so are the bytes, where these tests are the same
bytes_same : (n k : ℕ) (S R : Set) → ((v : ℕ) → (ltb v n && S v) ≡ (ltb v k && R v)) → set_bytes n S ≡ set_bytes k R
unfolding set_bytes set_byte
bytes_same n k S R h =
    tabulated_same set_size (set_byte n S) (set_byte k R)
    (λ j _.
    sum_same 8 (λ b. counted (ltb (8 * j + b) n && S (8 * j + b)) (2 ^ b)) (λ b. counted (ltb (8 * j + b) k && R (8 * j + b)) (2 ^ b))
    (λ b _. ap (λ (t : Bool). counted t (2 ^ b)) (h (8 * j + b))))

pub block_same : (n c : ℕ) (t u : ℤ) (S R : Set) → t ≡ u → Alike n S R → block n c t S ≡ block n c u R
unfolding block
block_same n c t u S R e h = ap₂ (λ (z : ℤ) (l : List ℕ). two c ++ two (complement z) ++ l) e (bytes_same n n S R (masked n S R h))

-- with nothing marked past n, room for 128 objects changes nothing
pub block_within : (n c : ℕ) (t : ℤ) (S : Set) → n ≤ most_objects → ((v : ℕ) → n ≤ v → S v ≡ false) → block most_objects c t S ≡ block n c t S
unfolding block
block_within n c t S few past = ap (λ (l : List ℕ). two c ++ two (complement t) ++ l) (bytes_same most_objects n S S same)
  where
    same : (v : ℕ) → (ltb v most_objects && S v) ≡ (ltb v n && S v)
    same v =
        ⊎_elim
        (λ l. ap (λ (x : Bool). x && S v) (lt-ltb v most_objects (omega arith) ∙ sym (lt-ltb v n l)))
        (λ g. rw (past v g) (and-false (ltb v most_objects) ∙ sym (and-false (ltb v n))))
        (cases_lt v n)
