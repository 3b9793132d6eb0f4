-- `net_of` meets its contract: the arrays are a fair net, and stand for the drawing that was read. Assumes nothing.
use mathlib.Core.Path.{refl}
use Rattle.net.proofs.Standing.{fair, held}
use Rattle.net.proofs.net_of.Goals as goal

pub invariant_of-result : goal.invariant_of-result
invariant_of-result c = record {
  fair = fair _ _ c.in_ok-fill.ensures c.put_ends.ensures c.weigh.ensures c.of-objects.ensures.objects c.of-objects.ensures.constraints;
}

pub returns : goal.returns
returns c =
    held _ _ c.in_ok-fill.ensures c.put_ends.ensures c.weigh.ensures c.of-objects.ensures.objects c.of-objects.ensures.constraints
    refl refl refl refl refl
