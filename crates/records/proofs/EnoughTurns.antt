-- More turns than bytes are enough: what is read does not depend on their number. Assumes nothing.
use mathlib.Core.Path.{◌≡◌, refl, sym, ap}
use mathlib.Core.List.{List}
use Prim.Native.Nat.{ℕ, zero, suc, ◌+◌, ◌≤◌, ◌<◌}
use native.Mathlib.Omega.{arith}
use lib.ListN.{length}
use borrow.Author.Tests.{lt-ltb}
use Rattle.drawing.specs.Choice.{pick}
use Rattle.drawing.specs.Entry.{Drawing, with_object, with_constraint}
use Rattle.drawing.specs.Fault.{object_fault_in, constraint_fault_in}
use Rattle.records.specs.Format.{head_size, head_fault, Record, faulty, object, constraint, end, record_at}
use Rattle.records.specs.Read.{Reading, unless, read_on, read_from}

-- past the bytes there is no head
none_past : (s : List ℕ) (at : ℕ) → length s < at → record_at s at ≡ faulty 1
unfolding record_at head_fault pick
none_past s at h = simp (lt-ltb (length s) (at + head_size) (omega arith))

-- two ways to read on that agree behind the record
same_on : (s : List ℕ) (at : ℕ) (d : Drawing) (r : Record) (f g : ℕ → Drawing → Reading)
    → ((at' : ℕ) (d' : Drawing) → at + head_size ≤ at' → f at' d' ≡ g at' d') → read_on s at d r f ≡ read_on s at d r g
same_on s at d (faulty n) f g h = refl
same_on s at d (object o) f g h = ap (unless (object_fault_in d o)) (h _ (with_object d o) (omega arith))
same_on s at d (constraint c) f g h = ap (unless (constraint_fault_in d c)) (h _ (with_constraint d c) (omega arith))
same_on s at d end f g h = refl

pub enough : (s : List ℕ) (k j at : ℕ) (d : Drawing) → length s < at + k → length s < at + j → read_from k s at d ≡ read_from j s at d
unfolding read_from
enough s zero zero at d p q = refl
enough s zero (suc j) at d p q = sym (ap (λ (r : Record). read_on s at d r (read_from j s)) (none_past s at (omega arith)))
enough s (suc k) zero at d p q = ap (λ (r : Record). read_on s at d r (read_from k s)) (none_past s at (omega arith))
enough s (suc k) (suc j) at d p q =
    same_on s at d (record_at s at) (read_from k s) (read_from j s) (λ at' d' h. enough s k j at' d' (omega arith) (omega arith))

-- so reading on is one record, and reading on behind it with as many turns
pub turn : (s : List ℕ) (at : ℕ) (d : Drawing)
    → read_from (suc (length s)) s at d ≡ read_on s at d (record_at s at) (read_from (suc (length s)) s)
unfolding read_from
turn s at d =
    same_on s at d (record_at s at) (read_from (length s) s) (read_from (suc (length s)) s)
    (λ at' d' h. enough s (length s) (suc (length s)) at' d' (omega arith) (omega arith))
