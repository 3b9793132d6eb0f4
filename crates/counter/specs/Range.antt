-- The range of K. 01, 'What it covers': "K from -64 to 8,191". Assumes nothing.
use Rattle.std.specs.Prelude.{Bool, ◌&&◌, ℤ, pos, negsuc}
use Rattle.std.specs.Int.Signed.{le_z}

abbrev pub least_k : ℤ
least_k = negsuc 63

abbrev pub most_k : ℤ
most_k = pos 8191

abbrev pub in_range : ℤ → Bool
in_range k = le_z least_k k && le_z k most_k
