-- `put_ends` meets its contract: at the start every place is zero. Assumes nothing.
use Rattle.net.proofs.Ends.{ends_none}
use Rattle.net.proofs.put_ends.Goals as goal

pub loop-e-init : goal.loop-e-init
loop-e-init c = rw c.requires (ends_none _)
