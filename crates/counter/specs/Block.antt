-- The answer block. 01, 'The questions': "The answer block is 20 bytes: constraint number (2 bytes), density as 16-bit two's complement
-- (2), then the set, 16 bytes, object i at bit i mod 8 of byte i / 8, unused bits 0." Assumes nothing.
use Rattle.std.specs.Prelude.{ℕ, ◌+◌, ◌*◌, ◌-◌, ◌/◌, ◌%◌, ◌^◌, cond, ◌&&◌, List, [], ◌∷◌, ◌++◌, ltb, eqb, get_or, ℤ, pos, negsuc}
use Rattle.density.specs.Sum.{sum, counted}
use Rattle.density.specs.Net.{Set}
use Rattle.limits.specs.Limits.{most_objects}
use Rattle.drawing.specs.Tabulated.{tabulated}
use Rattle.records.specs.Format.{two_at}

-- "All numbers are little-endian": a number in two bytes
abbrev pub two : ℕ → List ℕ
two x = x % 256 ∷ x / 256 % 256 ∷ []

-- 16-bit two's complement
unfoldable pub complement : ℤ → ℕ
complement (pos n) = n % 65536
complement (negsuc n) = 65535 - n % 65536

-- the sizes of the two numbers, of the set, in which a byte holds eight objects, and of the block
abbrev pub numbers_size : ℕ
numbers_size = 4

abbrev pub set_size : ℕ
set_size = most_objects / 8

abbrev pub block_size : ℕ
block_size = numbers_size + set_size

-- byte j of the set of n objects: object 8j + b is at bit b
unfoldable pub set_byte : ℕ → Set → ℕ → ℕ
set_byte n S j = sum 8 (λ b. counted (ltb (8 * j + b) n && S (8 * j + b)) (2 ^ b))

unfoldable pub set_bytes : ℕ → Set → List ℕ
set_bytes n S = tabulated set_size (set_byte n S)

unfoldable pub block : ℕ → ℕ → ℤ → Set → List ℕ
block n c t S = two c ++ two (complement t) ++ set_bytes n S

-- ---- reading a block

-- the constraint's number
abbrev pub number_in : List ℕ → ℕ
number_in b = two_at b 0

-- the density, and whether object v is in the set
unfoldable pub signed : ℕ → ℤ
signed x = cond (ltb x 32768) (pos x) (negsuc (65535 - x))

abbrev pub density_in : List ℕ → ℤ
density_in b = signed (two_at b 2)

abbrev pub set_in : List ℕ → Set
set_in b v = eqb (get_or b (numbers_size + v / 8) 0 / 2 ^ (v % 8) % 2) 1
