-- A sheet as bytes. 01, 'The questions': "2 unsigned bytes a share, 4 bytes a constraint". Assumes nothing.
use Rattle.std.specs.Prelude.{ℕ, ◌+◌, ◌*◌, List}
use Rattle.density.specs.Net.{first, second}
use Rattle.density.specs.Sheet.{Sheet}
use Rattle.records.specs.Format.{two_at}

-- the bytes that a sheet for m constraints takes
abbrev pub sheet_size : ℕ → ℕ
sheet_size m = 4 * m

-- the share for the first end of constraint e, and the one for its second
abbrev pub sheet_in : List ℕ → Sheet
sheet_in b first e = two_at b (4 * e)
sheet_in b second e = two_at b (4 * e + 2)
