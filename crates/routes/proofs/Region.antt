-- Laws of the region that a search marks when no route is found. Assumes nothing.
use mathlib.Core.Path.{◌≡◌, sym, subst, ◌∙◌}
use mathlib.Core.Logic.{⊎_elim}
use mathlib.Core.List.{List}
use mathlib.Core.Bool.{Bool}
use native.Mathlib.Omega.{arith}
use Prim.Native.Nat.{ℕ, ◌*◌, ◌/◌, ◌<◌}
use native.Mathlib.Nat.{eq-zero-or-pos}
use lib.Dec.{T}
use Rattle.arrays.specs.At.{at}
use Rattle.routes.specs.Marked.{Marked}
use Rattle.routes.specs.State.{State, Grown, GoesOn}
use Rattle.routes.specs.Search.{NoRoute}
use Rattle.std.proofs.lemmas.Bool.{cases_eq}
use Rattle.arrays.proofs.Stores.{at_set_off}
use Rattle.routes.proofs.Marking.{mark_object, mark_constraint}

abbrev pub From : Type 1
From = (ℕ → Bool) → Type 0

-- a set that the routes do not leave with more marks is one with fewer
pub goes_earlier : (m : ℕ) (ends : List ℕ) (t u : State) (S : ℕ → Bool) → Grown t u → u.shares ≡ t.shares → GoesOn m ends u S → GoesOn m ends t S
goes_earlier m ends t u S grown same g k b h inside p =
    g k b (grown.objects (at ends k) h) inside (subst (λ (l : List ℕ). 0 < at l k) (sym same) p)

-- one region, and then another
pub region_then : {m : ℕ} {ends : List ℕ} {from : From} {s t u : State} → Grown t u → NoRoute m ends from s t → NoRoute m ends from t u → NoRoute m ends from s u
region_then {m} {ends} {from} {s} {t} {u} grown one two = record {
  unmoved = record { shares = two.unmoved.shares ∙ one.unmoved.shares; room = two.unmoved.room ∙ one.unmoved.room };
  closed = λ e c h i q. grind (arith, two.closed e, grown.objects (at ends i), one.closed e c);
  full = λ v c h. grind (arith, one.unmoved.room, two.full v, one.full v c);
  goes_on = λ k b c h p. grind (arith, one.unmoved.shares, two.goes_on k b, grown.constraints (k / 2), one.goes_on k b c);
  least = λ S g f v c h. ⊎_elim
      (λ z. two.least S g f v z h)
      (λ y. one.least S (goes_earlier m ends t u S grown two.unmoved.shares g) f v c y)
      (eq-zero-or-pos (at t.objects v));
}

-- the same region from another start
pub region_from : {m : ℕ} {ends : List ℕ} {from start : From} {s t : State} → NoRoute m ends from s t
    → ((S : ℕ → Bool) → GoesOn m ends t S → start S → from S) → NoRoute m ends start s t
region_from h f = record {
  unmoved = h.unmoved;
  closed = h.closed;
  full = h.full;
  goes_on = h.goes_on;
  least = λ S g p v c k. h.least S g (f S g p) v c k;
}

-- a constraint joins the region once both its ends are marked
pub region_constraint : {m : ℕ} (e : ℕ) {ends : List ℕ} {from : From} {s t : State} → NoRoute m ends from (mark_constraint e s) t
    → ((i : ℕ) → i / 2 ≡ e → Marked t.objects (at ends i)) → NoRoute m ends from s t
region_constraint e {ends} {s = s} h both = record {
  unmoved = h.unmoved;
  closed = λ x c k i q. ⊎_elim
      (λ y. both i (q ∙ y))
      (λ n. h.closed x (at_set_off s.constraints e 1 x n ∙ c) k i q)
      (cases_eq x e);
  full = h.full;
  goes_on = h.goes_on;
  least = h.least;
}

-- an object joins the region if it has no room and every constraint with a share there is marked
pub region_object : {m : ℕ} (v : ℕ) {ends : List ℕ} {from : From} {s t : State} → NoRoute m ends from (mark_object v s) t → at s.room v ≡ 0
    → ((k : ℕ) → k < 2 * m → at ends k ≡ v → 0 < at s.shares k → Marked t.constraints (k / 2))
    → ((S : ℕ → Bool) → from S → T (S v)) → NoRoute m ends from s t
region_object v {ends} {s = s} h no_room covered start = record {
  unmoved = h.unmoved;
  closed = h.closed;
  full = λ u c k. grind (arith, no_room, at_set_off, h.full u);
  goes_on = λ k b c y p. ⊎_elim
      (λ e. covered k b e p)
      (λ n. h.goes_on k b (at_set_off s.objects v 1 (at ends k) n ∙ c) y p)
      (cases_eq (at ends k) v);
  least = λ S g f u c k. ⊎_elim
      (λ e. subst (λ (x : ℕ). T (S x)) (sym e) (start S f))
      (λ n. h.least S g f u (at_set_off s.objects v 1 u n ∙ c) k)
      (cases_eq u v);
}
