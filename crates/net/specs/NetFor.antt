-- What was read of a drawing, as counts and as the arrays of a net, and the reading that it stands for. Assumes nothing.
use Rattle.std.specs.Prelude.{◌≡◌, List, ℕ, ◌*◌, ◌≤◌, ◌<◌, length, Result, Ok, Err}
use Rattle.limits.specs.Limits.{most_objects, most_constraints, most_ends}
use Rattle.codes.specs.declared.Fault.{Fault}
use Rattle.codes.specs.Codes.{fault_number}
use Rattle.drawing.specs.Entry.{Drawing}
use Rattle.records.specs.Read.{Reading, refused, accepted}
use Rattle.density.specs.Net.{Side}
use Rattle.arrays.specs.At.{at}
use Rattle.arrays.specs.Arrays.{place}
use Rattle.arrays.specs.declared.NetArrays.{NetArrays}
use Rattle.arrays.specs.Held.{net_held}
use Rattle.net.specs.declared.Counts.{Counts}
use Rattle.net.specs.Weighed.{end_of, weighed}

-- every constraint of the net takes something
pub record Countable (a : NetArrays) : Type 0 where
  pub heavy : (e : ℕ) → e < a.constraints → 0 < at a.takes e

-- refused with the number of a fault
abbrev pub RefusedWith : Reading → Fault → Type 0
RefusedWith x f = x ≡ refused (fault_number f)

-- accepted, with a drawing of so many objects and constraints, within the limits
pub record AcceptedAs (x : Reading) (c : Counts) : Type 0 where
  pub drawing : Drawing
  pub reading : x ≡ accepted drawing
  pub objects_are : length drawing.objects ≡ c.objects
  pub constraints_are : length drawing.constraints ≡ c.constraints
  pub few_objects : c.objects ≤ most_objects
  pub few_constraints : c.constraints ≤ most_constraints

-- accepted, with a drawing whose net the arrays hold, and it can be counted
pub record HeldFor (x : Reading) (a : NetArrays) : Type 0 where
  pub drawing : Drawing
  pub reading : x ≡ accepted drawing
  pub net_is : weighed drawing ≡ net_held a
  pub countable : Countable a

-- the counts, or the fault, stand for a reading
abbrev pub CountsFor : Reading → Result Counts Fault → Type 0
CountsFor x (Ok c) = AcceptedAs x c
CountsFor x (Err f) = RefusedWith x f

-- the arrays, or the fault, stand for a reading
abbrev pub NetFor : Reading → Result NetArrays Fault → Type 0
NetFor x (Ok a) = HeldFor x a
NetFor x (Err f) = RefusedWith x f

-- the ends of the first m constraints of a drawing by place, and zeros past them
pub record EndsUpTo (d : Drawing) (m : ℕ) (ends : List ℕ) : Type 0 where
  pub long : length ends ≡ most_ends
  pub are : (i : Side) (e : ℕ) → e < m → at ends (place i e) ≡ end_of d i e
  pub past : (k : ℕ) → 2 * m ≤ k → at ends k ≡ 0

-- the ends of all
abbrev pub EndsOf : Drawing → List ℕ → Type 0
EndsOf d ends = EndsUpTo d (length d.constraints) ends
