-- The kinds of objects and of constraints, and their weights. 01, 'The bytes of a drawing'. Assumes nothing.
use Rattle.std.specs.Prelude.{ℕ, Bool, false, ◌&&◌, ◌||◌, eqb}
use Rattle.drawing.specs.Choice.{pick}

-- "Objects: 1 point", "2 line", "3 circle of given radius", "4 circle of free radius", "5 rigid cluster"
abbrev pub point : ℕ → Bool
point k = eqb k 1

abbrev pub line : ℕ → Bool
line k = eqb k 2

abbrev pub free_circle : ℕ → Bool
free_circle k = eqb k 4

abbrev pub circle : ℕ → Bool
circle k = eqb k 3 || free_circle k

abbrev pub cluster : ℕ → Bool
cluster k = eqb k 5

-- whether an object kind is one of these
unfoldable pub object_kind : ℕ → Bool
object_kind k = point k || line k || circle k || cluster k

-- "1 point, weight 2; 2 line, 2; 3 circle of given radius, 2; 4 circle of free radius, 3; 5 rigid cluster, 3"
unfoldable pub object_table : ℕ → ℕ
object_table k = pick (free_circle k || cluster k) 3 2

-- both ends are the one
abbrev pub both : (ℕ → Bool) → ℕ → ℕ → Bool
both p a b = p a && p b

-- "ends in either order": one end is the one, the other end the other
abbrev pub between : (ℕ → Bool) → (ℕ → Bool) → ℕ → ℕ → Bool
between p q a b = p a && q b || q a && p b

-- whether a constraint of kind k is allowed between objects of the kinds a and b: a line for each row of the table
unfoldable pub allowed : ℕ → ℕ → ℕ → Bool
allowed k a b =
    pick (eqb k 1) (both point a b || between point line a b || both line a b)
    (pick (eqb k 2) (both line a b)
    (pick (eqb k 3) (both point a b)
    (pick (eqb k 4) (between point line a b || between point circle a b)
    (pick (eqb k 5) (between line circle a b || both circle a b)
    (pick (eqb k 6) (both cluster a b)
    (pick (eqb k 7) (both circle a b)
    false))))))

-- the weight of a constraint of kind k between objects of the kinds a and b, and 0 where the table does not allow it:
-- 2 for a coincidence, a shared point and the same centre, else 1
unfoldable pub table_weight : ℕ → ℕ → ℕ → ℕ
table_weight k a b = pick (allowed k a b) (pick (eqb k 3 || eqb k 6 || eqb k 7) 2 1) 0
