-- What the reader's answer says of the bytes, and what an accepted drawing and its weights are, for callers. Assumes nothing.
use mathlib.Core.Path.{◌≡◌, sym}
use mathlib.Core.List.{List}
use Prim.Native.Nat.{ℕ, ◌<◌}
use lib.ListN.{length, get_or}
use Rattle.std.specs.Prelude.{Ok, Err}
use Rattle.codes.specs.declared.Fault.{Fault}
use Rattle.codes.specs.Codes.{fault_number}
use Rattle.drawing.specs.Entry.{Drawing, constraint_at}
use Rattle.drawing.specs.Sound.{SoundDrawing, FairWeight}
use Rattle.drawing.specs.WeightArrays.{WeightsIn}
use Rattle.drawing.proofs.WeightRange.{object_weight_lem, constraint_weight_lem}
use Rattle.records.specs.Read.{refused, accepted, read}
use Rattle.records.specs.Meant.{reading_of}
use Rattle.records.proofs.Reading.{accepted_sound}

-- a fault's number is the refusal's
pub read_refused : (s : List ℕ) (f : Fault) → reading_of (Err f) ≡ read s → read s ≡ refused (fault_number f)
read_refused s f is = sym is

-- the entries are the drawing accepted
pub read_accepted : (s : List ℕ) (d : Drawing) → reading_of (Ok d) ≡ read s → read s ≡ accepted d
read_accepted s d is = sym is

-- what the ends of an accepted drawing are: each names an object, and the two of a constraint are different
pub record ProperEnds (d : Drawing) : Type 0 where
  pub first_is : (e : ℕ) → e < length d.constraints → (constraint_at d e).first < length d.objects
  pub second_is : (e : ℕ) → e < length d.constraints → (constraint_at d e).second < length d.objects
  pub apart : (e : ℕ) → e < length d.constraints → (constraint_at d e).first ≡ (constraint_at d e).second → ⊥

module _ (s : List ℕ) (d : Drawing) (is : read s ≡ accepted d) where
  sound : SoundDrawing d
  sound = accepted_sound s d is

  pub read_ends : ProperEnds d
  read_ends = record {
    first_is = λ e h. (sound.constraints_sound e h).first_is;
    second_is = λ e h. (sound.constraints_sound e h).second_is;
    apart = λ e h. (sound.constraints_sound e h).apart;
  }

  -- every weight is 1 to 15
  module _ {os cs : List ℕ} (w : WeightsIn d os cs) where
    pub read_object_weight : (i : ℕ) → i < length d.objects → FairWeight (get_or os i 0)
    read_object_weight i h = rw (w.object_weights.values i h) (object_weight_lem d sound i h)

    pub read_constraint_weight : (e : ℕ) → e < length d.constraints → FairWeight (get_or cs e 0)
    read_constraint_weight e h = rw (w.constraint_weights.values e h) (constraint_weight_lem d sound e h)
