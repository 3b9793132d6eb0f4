-- Every weight in force of an accepted drawing is 1 to 15, and where there is no constraint it is 0. Assumes nothing.
use mathlib.Core.Path.{◌≡◌, ap}
use mathlib.Core.Bool.{◌||◌}
use Prim.Native.Nat.{ℕ, ◌≤◌, ◌<◌}
use native.Mathlib.Omega.{arith}
use lib.ListN.{length}
use lib.Dec.{eqb, lit≤}
use borrow.Author.Tests.{eqb-false}
use Rattle.drawing.specs.Choice.{pick}
use Rattle.drawing.specs.Table.{free_circle, cluster, object_table, table_weight, allowed}
use Rattle.drawing.specs.Entry.{Drawing, constraint_at, no_constraint, kind_of}
use Rattle.limits.specs.Limits.{most_weight}
use Rattle.drawing.specs.Sound.{SoundDrawing, FairWeight}
use Rattle.drawing.specs.Weight.{in_force, object_weight, constraint_weight}
use Rattle.drawing.proofs.Choice.{by_pick, row_bounds}

-- a stated weight of at most 15 in the place of a weight
in_force_lem : (stated table : ℕ) → stated ≤ most_weight → FairWeight table → FairWeight (in_force stated table)
unfolding in_force
in_force_lem stated table small w =
    by_pick FairWeight (eqb stated 0) table stated
    (λ _. w)
    (λ some. record { least = omega (arith, eqb-false stated 0 some); most = small })

object_in_table : (k : ℕ) → FairWeight (object_table k)
unfolding object_table
object_in_table k =
    by_pick FairWeight (free_circle k || cluster k) 3 2
    (λ _. record { least = lit≤ tt; most = lit≤ tt })
    (λ _. record { least = lit≤ tt; most = lit≤ tt })

constraint_in_table : (k a b : ℕ) → 0 < table_weight k a b → FairWeight (table_weight k a b)
unfolding table_weight
constraint_in_table k a b h = record { least = omega arith; most = search row_bounds depth 9 }

module _ (d : Drawing) (sound : SoundDrawing d) where
  pub object_weight_lem : (i : ℕ) → i < length d.objects → FairWeight (object_weight d i)
  unfolding object_weight
  object_weight_lem i h = in_force_lem _ _ (sound.objects_sound i h).small (object_in_table (kind_of d i))

  pub constraint_weight_lem : (e : ℕ) → e < length d.constraints → FairWeight (constraint_weight d e)
  unfolding constraint_weight
  constraint_weight_lem e h =
      let c = sound.constraints_sound e h in
      in_force_lem _ _ c.small (constraint_in_table _ _ _ c.in_table)

pub none_weighs_nothing : (d : Drawing) (e : ℕ) → constraint_at d e ≡ no_constraint → constraint_weight d e ≡ 0
unfolding constraint_weight in_force table_weight allowed pick
none_weighs_nothing d e none = ap (λ c. in_force c.stated (table_weight c.kind (kind_of d c.first) (kind_of d c.second))) none
