-- Laws of marks: one mark more, and marks that stay. Assumes nothing.
use mathlib.Core.Path.{◌≡◌, refl, ap}
use mathlib.Core.List.{List}
use Prim.Native.Nat.{ℕ, ◌+◌, ◌<◌, ◌≤◌}
use native.Mathlib.Omega.{arith}
use lib.ListN.{length, set}
use lib.Dec.{eqb}
use Rattle.density.specs.Sum.{counted}
use Rattle.density.proofs.Sums.{counted_le, sum_most}
use Rattle.limits.specs.Limits.{most_objects}
use Rattle.arrays.specs.At.{at}
use Rattle.routes.specs.Marked.{Marked, Clear}
use Rattle.routes.specs.State.{State, state, Sized, Grown, clears, unmarked}
use Rattle.routes.proofs.Sums.{counted_here, sum_differ_at}
use Rattle.arrays.proofs.Stores.{at_set_here, at_set_off}

pub marked_here : (l : List ℕ) (x : ℕ) → x < length l → Marked (set l x 1) x
marked_here l x b = omega (arith, at_set_here l x 1 x b refl)

marked_still : (l : List ℕ) (x y : ℕ) → x < length l → Marked l y → Marked (set l x 1) y
marked_still l x y b h = grind (arith, at_set_here, at_set_off)

clears_marked : (k : ℕ) (l : List ℕ) (x : ℕ) → x < k → x < length l → Clear l x → clears k (set l x 1) + 1 ≡ clears k l
unfolding clears
clears_marked k l x b c h =
    omega (
      arith,
      sum_differ_at k (λ y. counted (eqb (at (set l x 1) y) 0) 1) (λ y. counted (eqb (at l y) 0) 1) x b
          (λ y n. ap (λ (z : ℕ). counted (eqb z 0) 1) (at_set_off l x 1 y n)),
      ap (λ (z : ℕ). counted (eqb z 0) 1) (at_set_here l x 1 x c refl),
      counted_here (at l x) 0 1 h,
    )

clears_le : (k : ℕ) (l : List ℕ) → clears k l ≤ k
unfolding clears
clears_le k l = omega (arith, sum_most k 1 (λ x. counted (eqb (at l x) 0) 1) (λ x b. counted_le (eqb (at l x) 0) 1))

-- ---- a state with one mark more

abbrev pub mark_object : ℕ → State → State
mark_object v s = state (set s.objects v 1) s.constraints s.shares s.room

abbrev pub mark_constraint : ℕ → State → State
mark_constraint e s = state s.objects (set s.constraints e 1) s.shares s.room

pub grown_then : {s t u : State} → Grown s t → Grown t u → Grown s u
grown_then g h = record {
  objects = λ v p. h.objects v (g.objects v p);
  constraints = λ e p. h.constraints e (g.constraints e p);
}

pub grown_object : (s : State) (v : ℕ) → v < length s.objects → Grown s (mark_object v s)
grown_object s v b = record { objects = λ u h. marked_still s.objects v u b h; constraints = λ e h. h }

pub grown_constraint : (s : State) (e : ℕ) → e < length s.constraints → Grown s (mark_constraint e s)
grown_constraint s e b = record { objects = λ v h. h; constraints = λ x h. marked_still s.constraints e x b h }

pub unmarked_object : (m : ℕ) (s : State) (v : ℕ) → Sized s → v < most_objects → Clear s.objects v → unmarked m (mark_object v s) + 1 ≡ unmarked m s
unmarked_object m s v z b h = omega (arith, clears_marked most_objects s.objects v b (omega (arith, z.objects)) h)

pub unmarked_constraint : (m : ℕ) (s : State) (e : ℕ) → Sized s → e < m → e < length s.constraints → Clear s.constraints e → unmarked m (mark_constraint e s) + 1 ≡ unmarked m s
unmarked_constraint m s e z b c h = omega (arith, clears_marked m s.constraints e b c h)

pub unmarked_le : (m : ℕ) (s : State) → unmarked m s ≤ most_objects + m
unmarked_le m s = omega (arith, clears_le most_objects s.objects, clears_le m s.constraints)
