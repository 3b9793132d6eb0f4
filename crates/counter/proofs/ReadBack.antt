-- What stands at the front of a lent buffer, read back: a block gives the number, the density and the set that were written, a sheet its
-- shares, whatever lies behind. Assumes nothing.
use mathlib.Core.Path.{◌≡◌, refl, ◌∙◌, ap, ap₂, sym, subst}
use mathlib.Core.Bool.{Bool, true, false, cond, ◌&&◌, beq}
use mathlib.Core.List.{◌++◌, List}
use Prim.Native.Nat.{ℕ, suc, ◌+◌, ◌*◌, ◌-◌, ◌/◌, ◌%◌, ◌^◌, ◌≤◌, ◌<◌}
use native.Mathlib.Omega.{arith}
use borrow.Author.Tests.{lt-ltb, le-ltb}
use lib.Dec.{T, ltb, eqb}
use lib.IntN.{ℤ, pos, negsuc}
use lib.ListN.{get_or, length, get_or-append, drop, length-append}
use lib.Seq.{get_or-append-add}
use Rattle.density.specs.Sum.{sum, counted}
use Rattle.density.specs.Net.{Set, Side, first, second, Alike}
use Rattle.density.proofs.Sums.{sum_same}
use Rattle.density.proofs.Integers.{cross_of_eq, sub_up, sub_down}
use Rattle.density.proofs.EverySet.{empty_set, every, every_set}
use Rattle.density.proofs.EveryNumber.{below, below_gives, below_same}
use Rattle.limits.specs.Limits.{most_objects}
use Rattle.records.specs.Format.{two_at}
use Rattle.drawing.proofs.Tabulated.{get_or_tabulated, length_tabulated}
use Rattle.counter.specs.Block.{two, complement, set_byte, set_bytes, set_size, block, signed, number_in, density_in, set_in, block_size}
use Rattle.density.specs.Top.{AnswerSet}
use Rattle.density.proofs.OneAnswer.{answer_top, answer_alike}
use Rattle.drawing.specs.Entry.{Drawing}
use Rattle.net.specs.Weighed.{weighed, Within}
use Rattle.checker.specs.Sheet.{sheet_size, sheet_in}
use Rattle.counter.specs.Outcome.{Outcome, over}
use Rattle.counter.specs.Question.{BlockOf}
use Rattle.counter.proofs.Outcomes.{buffer_is}
use Rattle.counter.proofs.Sizes.{Short, top_short}
use Rattle.drawing.specs.Tabulated.{tabulated}

-- ---- bits: a byte made of eight tests has each test at its bit

abbrev made : Set → ℕ
made p = sum 8 (λ b. counted (p b) (2 ^ b))

bits_test : Set → Bool
bits_test p = below 8 (λ k. beq (eqb (made p / 2 ^ k % 2) 1) (p k))

all_bits : T (every 8 bits_test empty_set)
unfolding bits_test sum
all_bits = tt

made_same : (p q : Set) → Alike 8 p q → bits_test p ≡ bits_test q
unfolding bits_test
made_same p q h =
    below_same 8 (λ k. beq (eqb (made p / 2 ^ k % 2) 1) (p k)) (λ k. beq (eqb (made q / 2 ^ k % 2) 1) (q k))
    (λ k l.
    ap₂ (λ (x : ℕ) (b : Bool). beq (eqb (x / 2 ^ k % 2) 1) b)
    (sum_same 8 (λ b. counted (p b) (2 ^ b)) (λ b. counted (q b) (2 ^ b)) (λ b m. ap (λ (t : Bool). counted t (2 ^ b)) (h b m)))
    (h k l))

same_of : (a b : Bool) → T (beq a b) → a ≡ b
same_of true true t = refl
same_of true false t = absurd t
same_of false true t = absurd t
same_of false false t = refl

pub bit_of : (p : Set) (k : ℕ) → k < 8 → eqb (made p / 2 ^ k % 2) 1 ≡ p k
unfolding bits_test
bit_of p k l =
    same_of (eqb (made p / 2 ^ k % 2) 1) (p k)
    (below_gives 8 (λ k. beq (eqb (made p / 2 ^ k % 2) 1) (p k)) (every_set 8 bits_test made_same all_bits p) k l)

-- ---- the set

pub set_reads : (n c : ℕ) (t : ℤ) (S : Set) (v : ℕ) → n ≤ most_objects → v < n → set_in (block n c t S) v ≡ S v
unfolding block set_bytes set_byte
set_reads n c t S v few l =
    ap (λ (x : ℕ). eqb (x / 2 ^ (v % 8) % 2) 1) byte
    ∙ bit_of (λ b. ltb (8 * (v / 8) + b) n && S (8 * (v / 8) + b)) (v % 8) (omega arith)
    ∙ ap (λ (u : ℕ). ltb u n && S u) (div_mod v)
    ∙ ap (λ (b : Bool). b && S v) (lt-ltb v n l)
  where
    byte : get_or (block n c t S) (4 + v / 8) 0 ≡ set_byte n S (v / 8)
    byte =
        get_or-append-add (two c ++ two (complement t)) (set_bytes n S) (v / 8) 0
        ∙ get_or_tabulated set_size (set_byte n S) 0 (v / 8) (omega arith)

    div_mod : (v : ℕ) → 8 * (v / 8) + v % 8 ≡ v
    div_mod v = omega arith

-- ---- the density

signed_back : (t : ℤ) → Short t → signed (complement t) ≡ t
unfolding signed complement
signed_back (pos n) h =
    ap (λ (x : ℕ). cond (ltb x 32768) (pos x) (negsuc (65535 - x))) same
    ∙ ap (λ (b : Bool). cond b (pos n) (negsuc (65535 - n))) (lt-ltb n 32768 small)
  where
    small : n < 32768
    small = omega (arith, cross_of_eq n 0 h.more h.less (sub_up n 0 n (omega arith) ∙ h.is), h.high)

    same : n % 65536 ≡ n
    same = omega (arith, small)
signed_back (negsuc n) h =
    ap (λ (b : Bool). cond b (pos (65535 - n % 65536)) (negsuc (65535 - (65535 - n % 65536)))) (le-ltb (65535 - n % 65536) 32768 (omega (arith, small)))
    ∙ ap negsuc same
  where
    small : n < 32768
    small = omega (arith, cross_of_eq 0 (suc n) h.more h.less (sub_down 0 (suc n) n (omega arith) ∙ h.is), h.low)

    same : 65535 - (65535 - n % 65536) ≡ n
    same = omega (arith, small)

complement_short : (t : ℤ) → complement t < 65536
unfolding complement
complement_short (pos n) = omega arith
complement_short (negsuc n) = omega arith

-- two bytes read back
joined : (x : ℕ) → x < 65536 → x % 256 + 256 * (x / 256 % 256) ≡ x
joined x h = omega arith

pub number_reads : (n c : ℕ) (t : ℤ) (S : Set) → c < 65536 → number_in (block n c t S) ≡ c
unfolding block two_at
number_reads n c t S h = joined c h

pub density_reads : (n c : ℕ) (t : ℤ) (S : Set) → Short t → density_in (block n c t S) ≡ t
unfolding block two_at
density_reads n c t S short = ap signed (joined (complement t) (complement_short t)) ∙ signed_back t short

-- ---- at the front of a buffer

-- the number in two bytes of the front
two_front : (bytes behind : List ℕ) (k : ℕ) → k + 1 < length bytes → two_at (bytes ++ behind) k ≡ two_at bytes k
unfolding two_at
two_front bytes behind k h =
    ap₂ (λ (x y : ℕ). x + 256 * y) (get_or-append bytes behind 0 k (omega arith)) (get_or-append bytes behind 0 (k + 1) h)

pub sheet_front : (m : ℕ) (bytes behind : List ℕ) → length bytes ≡ sheet_size m → (i : Side) (e : ℕ) → e < m → sheet_in bytes i e ≡ sheet_in (bytes ++ behind) i e
sheet_front m bytes behind long first e l = sym (two_front bytes behind (4 * e) (omega arith))
sheet_front m bytes behind long second e l = sym (two_front bytes behind (4 * e + 2) (omega arith))

pub block_long : (n c : ℕ) (t : ℤ) (S : Set) → length (block n c t S) ≡ block_size
unfolding block set_bytes
block_long n c t S =
    length-append (two c ++ two (complement t)) (tabulated set_size (set_byte n S)) ∙ ap (λ (k : ℕ). 4 + k) (length_tabulated set_size (set_byte n S))

-- a block at the front of a buffer says the number of the constraint, its top density and its answer set
pub block_says : (d : Drawing) → Within d → (c : ℕ) → c < length d.constraints → (o : Outcome) → BlockOf d c o → (before after : List ℕ)
    → after ≡ over o.bytes before → (number_in after ≡ c) × AnswerSet (weighed d) c (density_in after) (set_in after)
unfolding weighed
block_says d within c l o b before after w =
    subst (λ (a : List ℕ). (number_in a ≡ c) × AnswerSet (weighed d) c (density_in a) (set_in a)) (sym here) (
      two_front bytes behind 0 (omega (arith, long)) ∙ number_reads n c b.top b.set (omega (arith, within.few_constraints)),
      subst (λ (z : ℤ). AnswerSet (weighed d) c z (set_in (bytes ++ behind))) (sym density)
          (answer_alike (weighed d) within.proper c l b.top b.set (set_in (bytes ++ behind)) members b.answer),
    )
  where
    n : ℕ
    n = length d.objects

    bytes : List ℕ
    bytes = block n c b.top b.set

    behind : List ℕ
    behind = drop (length bytes) before

    long : length bytes ≡ block_size
    long = block_long n c b.top b.set

    here : after ≡ bytes ++ behind
    here = w ∙ buffer_is before b.is

    density : density_in (bytes ++ behind) ≡ b.top
    density =
        ap signed (two_front bytes behind 2 (omega (arith, long)))
        ∙ density_reads n c b.top b.set (top_short d within c b.top (answer_top (weighed d) c b.top b.set b.answer))

    members : Alike n b.set (set_in (bytes ++ behind))
    members v h =
        sym
        (ap (λ (x : ℕ). eqb (x / 2 ^ (v % 8) % 2) 1) (get_or-append bytes behind 0 (4 + v / 8) (omega (arith, long, within.few_objects)))
        ∙ set_reads n c b.top b.set v within.few_objects h)
