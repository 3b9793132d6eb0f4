-- `push` meets its contract: the item takes the place of the first blank. Assumes nothing.
use Rattle.std.proofs.Common.{ap, arith, length}
use Rattle.drawing.proofs.padded.Padded.push.Goals as goal
use Rattle.drawing.proofs.Fronts.{front_pushed}

pub invariant_of-self : goal.invariant_of-self
invariant_of-self g c =
    front_pushed
    g.T.Item.blank
    c.args.item
    g.row.N
    c.self.inside.count
    c.self.inside.items
    c.self.invariant
    (omega (arith, c.requires, ap length c.self.view_is))
