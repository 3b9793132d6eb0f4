-- Laws of the writer of a block. Assumes nothing.
use mathlib.Core.Path.{◌≡◌, refl, sym, ◌∙◌, ap, ap₂}
use mathlib.Core.Bool.{Bool, true, false, ◌&&◌}
use mathlib.Core.List.{List, [], ◌∷◌, ◌++◌, append-nil}
use Prim.Native.Nat.{ℕ, zero, suc, ◌+◌, ◌*◌, ◌-◌, ◌^◌, ◌/◌, ◌%◌, ◌≤◌, ◌<◌}
use native.Mathlib.Numerals.{add-one}
use native.Mathlib.Omega.{arith}
use borrow.Author.Count.{below_more}
use borrow.Author.Tests.{lt-ltb, le-ltb}
use mir.Syntax.{w8}
use mir.Val.{Fits}
use Rattle.std.proofs.lemmas.Grind.{same_number_lists}
use Rattle.std.proofs.Math.Nat.{pow-suc}
use Rattle.std.proofs.Math.Pow.{pow-lt, pow_mono}
use Rattle.arrays.specs.At.{at}
use Rattle.arrays.proofs.Stores.{at_set_here, at_set_off}
use Rattle.routes.specs.Marked.{members}
use borrow.Rule.Slice.PartMut.{put_mid, mid_of}
use lib.Dec.{ltb, lit<}
use lib.ListN.{length, take, drop, set}
use lib.Seq.{take-length, drop-length}
use Rattle.density.specs.Sum.{sum, counted}
use Rattle.limits.specs.Limits.{most_objects}
use Rattle.drawing.specs.Tabulated.{tabulated}
use Rattle.drawing.proofs.Tabulated.{length_tabulated, get_or_tabulated}
use Rattle.counter.specs.Block.{set_byte, set_bytes, set_size, two}
use Rattle.counter.specs.Outcome.{over}

-- ---- two bytes in the place of two

set_two : (l : List ℕ) (i x y : ℕ) → suc i < length l → take i l ++ (x ∷ y ∷ drop 2 (drop i l)) ≡ set (set l i x) (suc i) y
set_two [] i x y h = absurd (omega arith)
set_two (p ∷ []) i x y h = absurd (omega arith)
set_two (p ∷ q ∷ l) zero x y h = refl
set_two (p ∷ q ∷ l) (suc i) x y h = ap (λ (k : List ℕ). p ∷ k) (set_two (q ∷ l) i x y (omega arith))

pub two_written : (l part : List ℕ) (i x y : ℕ) → i + 1 < length l → part ≡ x ∷ y ∷ [] → put_mid i (i + 2 - i) l part ≡ set (set l i x) (i + 1) y
two_written l part i x y h is =
    let k_is : i + 2 - i ≡ 2 = omega arith in
    ap₂ (λ (p : List ℕ) (k : ℕ). put_mid i k l p) is k_is
    ∙ set_two l i x y (omega arith)
    ∙ ap (λ (j : ℕ). set (set l i x) j y) (sym (add-one i))

-- ---- the bits of a byte

-- what bit b of byte j is worth, where 16 bytes hold 128 objects
abbrev pub bit_of : List ℕ → ℕ → ℕ → ℕ
bit_of objects j b = counted (ltb (8 * j + b) most_objects && members objects (8 * j + b)) (2 ^ b)

-- a byte that holds the bits below b
pub record BitsBelow (objects : List ℕ) (j b byte : ℕ) : Type 0 where
  pub is : byte ≡ sum b (bit_of objects j)
  pub low : byte < 2 ^ b

pub no_bits : (objects : List ℕ) (j : ℕ) → BitsBelow objects j 0 0
unfolding sum
no_bits objects j = record { is = refl; low = lit< tt }

-- one bit more: object 8j + b is marked, or it is not
module _ {objects : List ℕ} {j b byte : ℕ} (bits : BitsBelow objects j b byte) (is : j < set_size) (below : b < 8) where
  shifted : 1 * 2 ^ b % 256 ≡ 2 ^ b
  shifted = omega (arith, pow-lt below)

  sum_more : sum (b + 1) (bit_of objects j) ≡ sum b (bit_of objects j) + bit_of objects j b
  unfolding sum
  sum_more = ap (λ (k : ℕ). sum k (bit_of objects j)) (add-one b)

  bit_is : (m : Bool) → members objects (8 * j + b) ≡ m → bit_of objects j b ≡ counted m (2 ^ b)
  bit_is m e = ap₂ (λ (s t : Bool). counted (s && t) (2 ^ b)) (lt-ltb (8 * j + b) most_objects (omega arith)) e

  twice : 2 ^ (b + 1) ≡ 2 ^ b * 2
  twice = ap (λ (k : ℕ). 2 ^ k) (add-one b) ∙ pow-suc 2 b

  pub bit_fits : Fits w8 (byte + 1 * 2 ^ b % 256)
  bit_fits = record { fits = omega (arith, bits.low, shifted, twice, pow_mono {i = b + 1} {j = 8} (omega arith)) }

  pub bit_set : 0 < at objects (8 * j + b) → BitsBelow objects j (b + 1) (byte + 1 * 2 ^ b % 256)
  bit_set marked =
      record { is = omega (arith, bits.is, sum_more, shifted, bit_is true (lt-ltb 0 _ marked)); low = omega (arith, bits.low, shifted, twice) }

  pub bit_clear : at objects (8 * j + b) ≤ 0 → BitsBelow objects j (b + 1) byte
  bit_clear clear = record { is = omega (arith, bits.is, sum_more, bit_is false (le-ltb 0 _ clear)); low = omega (arith, bits.low, twice) }

-- what a byte's bits need, under one name
pub ruleset bit_laws = (no_bits, bit_fits, bit_set, bit_clear)

-- ---- the bytes of a set

-- the bytes below j are those of the set of marked objects
pub record SetBelow (objects : List ℕ) (j : ℕ) (bytes : List ℕ) : Type 0 where
  pub are : (k : ℕ) → k < j → at bytes k ≡ set_byte most_objects (members objects) k

pub no_bytes : (objects bytes : List ℕ) → SetBelow objects 0 bytes
no_bytes objects bytes = record { are = λ k l. absurd (omega arith) }

pub one_byte : {objects bytes : List ℕ} {j x : ℕ} → SetBelow objects j bytes → j < length bytes → x ≡ set_byte most_objects (members objects) j
    → SetBelow objects (j + 1) (set bytes j x)
one_byte {objects} {bytes} {j} {x} below long e =
    record {
      are = below_more (λ k. at (set bytes j x) k ≡ set_byte most_objects (members objects) k) j
          (λ k h. at_set_off bytes j x k (λ q. omega arith) ∙ below.are k h) (at_set_here bytes j x j long refl ∙ e);
    }

-- all are written, and the part behind them is as it was
pub all_bytes : {objects bytes : List ℕ} {j : ℕ} (before : List ℕ) → SetBelow objects j bytes → length bytes ≡ set_size → set_size ≤ j
    → bytes ++ drop set_size before ≡ over (set_bytes most_objects (members objects)) before
unfolding set_bytes
all_bytes {objects} {bytes} before below long all =
    ap₂ (λ (l : List ℕ) (k : ℕ). l ++ drop k before)
    (same_number_lists bytes (tabulated set_size f) (long ∙ sym (length_tabulated set_size f))
    (λ k h. below.are k (omega arith) ∙ sym (get_or_tabulated set_size f 0 k (omega arith))))
    (sym (length_tabulated set_size f))
  where
    f : ℕ → ℕ
    f = set_byte most_objects (members objects)

-- what the bytes of a set need, under one name
pub ruleset byte_laws = (no_bytes, one_byte, all_bytes)

-- ---- a block: the two numbers, then the set in the part behind four bytes

-- what the part behind four bytes is, and what the whole is once the part is written
behind_four : (w x y z : ℕ) (rest : List ℕ) → length (w ∷ x ∷ y ∷ z ∷ rest) - 4 ≡ length rest
behind_four w x y z rest = omega arith

four_over : (c t : ℕ) (written rest : List ℕ) (w x y z : ℕ)
    → put_mid 4 (length rest) (two c ++ two t ++ rest) (over written (mid_of 4 (length rest) (two c ++ two t ++ rest))) ≡ over (two c ++ two t ++ written) (w ∷ x ∷ y ∷ z ∷ rest)
four_over c t written rest w x y z =
    ap (λ (l : List ℕ). two c ++ two t ++ l)
    (ap₂ (λ (a b : List ℕ). over written a ++ b) (take-length rest) (drop-length rest) ∙ append-nil (over written rest))

-- a buffer of four bytes or more
data Roomy : List ℕ → Type 0 where
  roomy : (w x y z : ℕ) (rest : List ℕ) → Roomy (w ∷ x ∷ y ∷ z ∷ rest)

has_four : (before : List ℕ) → 4 ≤ length before → Roomy before
has_four [] h = absurd (omega arith)
has_four (w ∷ []) h = absurd (omega arith)
has_four (w ∷ x ∷ []) h = absurd (omega arith)
has_four (w ∷ x ∷ y ∷ []) h = absurd (omega arith)
has_four (w ∷ x ∷ y ∷ z ∷ rest) h = roomy w x y z rest

pub numbers_over : (c t : ℕ) (before first both : List ℕ) → 4 ≤ length before
    → first ≡ set (set before 0 (c % 256)) 1 (c / 256 % 256) → both ≡ set (set first 2 (t % 256)) 3 (t / 256 % 256) → both ≡ over (two c ++ two t) before
numbers_over c t before first both h = go (has_four before h)
  where
    go : {before : List ℕ} → Roomy before → first ≡ set (set before 0 (c % 256)) 1 (c / 256 % 256) → both ≡ set (set first 2 (t % 256)) 3 (t / 256 % 256)
        → both ≡ over (two c ++ two t) before
    go (roomy w x y z rest) e f = f ∙ ap (λ (l : List ℕ). set (set l 2 (t % 256)) 3 (t / 256 % 256)) e

pub block_over : (c t : ℕ) (written before both part : List ℕ) → 4 ≤ length before → both ≡ over (two c ++ two t) before
    → part ≡ over written (mid_of 4 (length both - 4) both) → put_mid 4 (length both - 4) both part ≡ over (two c ++ two t ++ written) before
block_over c t written before both part h = go (has_four before h)
  where
    go : {before : List ℕ} → Roomy before → both ≡ over (two c ++ two t) before
        → part ≡ over written (mid_of 4 (length both - 4) both) → put_mid 4 (length both - 4) both part ≡ over (two c ++ two t ++ written) before
    go (roomy w x y z rest) e f =
        ap₂ (λ (b p : List ℕ). put_mid 4 (length b - 4) b p) e (f ∙ ap (λ (b : List ℕ). over written (mid_of 4 (length b - 4) b)) e)
        ∙ ap (λ (k : ℕ). put_mid 4 k (two c ++ two t ++ rest) (over written (mid_of 4 k (two c ++ two t ++ rest))))
        (behind_four (c % 256) (c / 256 % 256) (t % 256) (t / 256 % 256) rest)
        ∙ four_over c t written rest w x y z
