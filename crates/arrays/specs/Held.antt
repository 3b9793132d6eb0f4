-- The net that a struct of arrays holds. Assumes nothing.
use Rattle.density.specs.Net.{Net}
use Rattle.arrays.specs.declared.NetArrays.{NetArrays}
use Rattle.arrays.specs.Arrays.{net_in}

abbrev pub net_held : NetArrays → Net
net_held a = net_in a.objects a.constraints a.ends a.weights a.takes
