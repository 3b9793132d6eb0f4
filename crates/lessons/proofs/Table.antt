-- Drawings A to L: every line of the table is correct, by one test that the prover computes over the whole table, from the entries of each
-- drawing. Assumes nothing.
use mathlib.Core.Path.{◌≡◌, refl}
use Prim.Native.Nat.{ℕ, ◌<◌}
use lib.Dec.{T}
use lib.ListN.{length, get_or}
use Rattle.density.specs.Sum.{sum}
use Rattle.density.specs.Density.{taken_by, free, density}
use Rattle.density.specs.Example.{Correct}
use Rattle.density.proofs.EveryNumber.{below, below_gives}
use Rattle.density.proofs.Example.{correct_test, passed_correct}
use Rattle.drawing.specs.Choice.{pick}
use Rattle.drawing.specs.Table.{object_table, table_weight, allowed}
use Rattle.drawing.specs.Weight.{in_force, object_weight, constraint_weight}
use Rattle.net.specs.Weighed.{weighed}
use Rattle.lessons.specs.Small.{example, A, table}

-- the table has twelve lines
pub twelve_lines : length table ≡ 12
twelve_lines = refl

table_test : T (below 12 (λ i. correct_test (example (get_or table i A))))
unfolding density taken_by free sum weighed object_weight constraint_weight in_force object_table table_weight allowed pick
table_test = tt

pub table_correct : (i : ℕ) → i < 12 → Correct (example (get_or table i A))
table_correct i l = passed_correct (example (get_or table i A)) (below_gives 12 (λ j. correct_test (example (get_or table j A))) table_test i l)
