-- `weigh` meets its contract: at the start every weight is zero. Assumes nothing.
use Rattle.drawing.proofs.Filled.{filled_none}
use Rattle.drawing.proofs.weigh.Goals as goal

pub loop-i-init : goal.loop-i-init
loop-i-init c = filled_none _ _

pub loop-e-init : goal.loop-e-init
loop-e-init c = filled_none _ _
