-- The table takes the ends of a constraint in either order. Assumes nothing.
use mathlib.Core.Path.{◌≡◌, ap, ap₂, ◌∙◌}
use mathlib.Core.Bool.{Bool, false, ◌&&◌, ◌||◌, and_comm, or_comm}
use Prim.Native.Nat.{ℕ}
use lib.Dec.{eqb}
use Rattle.drawing.specs.Choice.{pick}
use Rattle.drawing.specs.Table.{point, line, circle, cluster, both, between, allowed, table_weight}

both_order : (p : ℕ → Bool) (a b : ℕ) → both p a b ≡ both p b a
both_order p a b = and_comm (p a) (p b)

between_order : (p q : ℕ → Bool) (a b : ℕ) → between p q a b ≡ between p q b a
between_order p q a b =
    or_comm (p a && q b) (q a && p b) ∙ ap₂ ◌||◌ (and_comm (q a) (p b)) (and_comm (p a) (q b))

-- the same tests, and equal choices row by row
row : (t : Bool) {x y x' y' : Bool} → x ≡ x' → y ≡ y' → pick t x y ≡ pick t x' y'
row t e f = ap₂ (pick t) e f

allowed_order : (k a b : ℕ) → allowed k a b ≡ allowed k b a
unfolding allowed
allowed_order k a b =
    row (eqb k 1) (ap₂ ◌||◌ (ap₂ ◌||◌ (both_order point a b) (between_order point line a b)) (both_order line a b))
    (row (eqb k 2) (both_order line a b)
    (row (eqb k 3) (both_order point a b)
    (row (eqb k 4) (ap₂ ◌||◌ (between_order point line a b) (between_order point circle a b))
    (row (eqb k 5) (ap₂ ◌||◌ (between_order line circle a b) (both_order circle a b))
    (row (eqb k 6) (both_order cluster a b)
    (ap (λ (x : Bool). pick (eqb k 7) x false) (both_order circle a b)))))))

pub either_order : (k a b : ℕ) → table_weight k a b ≡ table_weight k b a
unfolding table_weight
either_order k a b = rw (allowed_order k a b)
