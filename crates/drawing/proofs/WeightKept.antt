-- What keeps a weight in force: an object its entry; a constraint its kind, its stated weight and the kinds of its two ends, in either
-- order. Assumes nothing.
use mathlib.Core.Path.{◌≡◌, ◌∙◌, ap, ap₂}
use Prim.Native.Nat.{ℕ}
use Rattle.drawing.specs.declared.Object.{Object}
use Rattle.drawing.specs.Table.{object_table, table_weight}
use Rattle.drawing.specs.Entry.{Drawing, object_at, constraint_at, kind_of}
use Rattle.drawing.specs.Weight.{in_force, object_weight, constraint_weight}
use Rattle.drawing.proofs.EitherOrder.{either_order}

pub object_kept : (d b : Drawing) (v w : ℕ) → object_at b w ≡ object_at d v → object_weight b w ≡ object_weight d v
unfolding object_weight
object_kept d b v w same = ap (λ (o : Object). in_force o.stated (object_table o.kind)) same

module _ (d b : Drawing) (e f : ℕ) (same_kind : (constraint_at b f).kind ≡ (constraint_at d e).kind)
    (same_stated : (constraint_at b f).stated ≡ (constraint_at d e).stated) where
  -- the kinds of the two ends of e, and those of f
  abbrev e₁ : ℕ
  e₁ = kind_of d (constraint_at d e).first

  abbrev e₂ : ℕ
  e₂ = kind_of d (constraint_at d e).second

  abbrev f₁ : ℕ
  f₁ = kind_of b (constraint_at b f).first

  abbrev f₂ : ℕ
  f₂ = kind_of b (constraint_at b f).second

  pub constraint_kept : f₁ ≡ e₁ → f₂ ≡ e₂ → constraint_weight b f ≡ constraint_weight d e
  unfolding constraint_weight
  constraint_kept p q = ap₂ in_force same_stated (λ i. table_weight (same_kind i) (p i) (q i))

  pub constraint_turned : f₁ ≡ e₂ → f₂ ≡ e₁ → constraint_weight b f ≡ constraint_weight d e
  unfolding constraint_weight
  constraint_turned p q =
      ap₂ in_force same_stated ((λ i. table_weight (same_kind i) (p i) (q i)) ∙ either_order (constraint_at d e).kind e₂ e₁)
