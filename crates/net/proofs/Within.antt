-- The net of an accepted drawing is proper and within the limits. Assumes nothing.
use mathlib.Core.Path.{◌≡◌, sym, ap, subst}
use mathlib.Core.List.{List}
use Prim.Native.Nat.{ℕ, ◌≤◌, ◌<◌}
use borrow.Author.Tests.{lt-ltb}
use lib.ListN.{length}
use Rattle.limits.specs.Limits.{most_weight}
use Rattle.density.specs.Net.{Side, first, second}
use Rattle.drawing.specs.Choice.{pick}
use Rattle.drawing.specs.Entry.{Drawing}
use Rattle.records.specs.Read.{accepted, read}
use Rattle.drawing.specs.Sound.{SoundDrawing}
use Rattle.drawing.specs.Weight.{object_weight}
use Rattle.records.proofs.Reading.{accepted_sound}
use Rattle.drawing.proofs.WeightRange.{object_weight_lem, constraint_weight_lem}
use Rattle.net.specs.Weighed.{end_of, weight_of, weighed, Within}

pub weight_there : (d : Drawing) (v : ℕ) → v < length d.objects → weight_of d v ≡ object_weight d v
unfolding pick
weight_there d v h = ap (λ b. pick b (object_weight d v) 0) (lt-ltb v (length d.objects) h)

pub accepted_within : (s : List ℕ) (d : Drawing) → read s ≡ accepted d → Within d
unfolding weighed
accepted_within s d e =
    record {
      few_objects = sound.few_objects;
      few_constraints = sound.few_constraints;
      proper = record { named = named; apart = λ c h. (sound.constraints_sound c h).apart };
      heavy = record { some_weight = λ c h. (constraint_weight_lem d sound c h).least };
      light_objects = λ v h. subst (λ (w : ℕ). w ≤ most_weight) (sym (weight_there d v h)) (object_weight_lem d sound v h).most;
      light_constraints = λ c h. (constraint_weight_lem d sound c h).most;
    }
  where
    sound : SoundDrawing d
    sound = accepted_sound s d e

    named : (i : Side) (c : ℕ) → c < length d.constraints → end_of d i c < length d.objects
    named first c h = (sound.constraints_sound c h).first_is
    named second c h = (sound.constraints_sound c h).second_is
