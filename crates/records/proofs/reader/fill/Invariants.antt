-- `reader::fill` meets its contract. The invariant is `Stands`: what reading the bytes gives is what reading on from here gives,
-- after the entries read so far. The measure is what is left of the bytes. Assumes nothing.
use Prim.Native.Nat.{◌-◌}
use lib.ListN.{length}
use Rattle.records.proofs.reader.Turn.{Stands}
use Rattle.records.proofs.reader.fill.Given as goal

abbrev pub invariant-loop-o : goal.invariant-loop-o
invariant-loop-o l = Stands l.bytes l.at l.entries

abbrev pub decreases-loop-o : goal.decreases-loop-o
decreases-loop-o l = length l.bytes - l.at
