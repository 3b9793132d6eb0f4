-- Samples that hold the definitions to 01, computed: 'Both sides' of K and of rooms, the order of faults, and the bytes that are
-- written. Assumes nothing.
use Rattle.std.specs.Prelude.{◌≡◌, refl, List, [], ◌∷◌, map, ℕ, ◌+◌, ◌*◌, ◌/◌, ◌%◌, ◌^◌, eqb, pos, negsuc, length, replicate}
use Rattle.density.specs.Sum.{sum}
use Rattle.density.specs.Net.{first, second}
use Rattle.density.specs.Example.{set_of}
use Rattle.drawing.specs.Choice.{pick}
use Rattle.drawing.specs.Tabulated.{tabulated}
use Rattle.drawing.specs.Samples.{a_point, distance, Judged}
use Rattle.records.specs.Format.{two_at}
use Rattle.records.specs.Read.{refused}
use Rattle.counter.specs.Block.{two, complement, set_byte, set_bytes, block, signed}
use Rattle.checker.specs.Sheet.{sheet_in}
use Rattle.counter.specs.Outcome.{Question, first_fault, over}
use Rattle.counter.specs.Question.{counts, look_over, one_constraint, any_dense, sheet_for, check}

-- the fault of a question about two objects and m constraints, or one, and what it is said to be
abbrev pub judged_of : ℕ → Question → ℕ → Judged
judged_of m q n = record { fault = q.fault 2 m; said = n }

abbrev pub judged : Question → ℕ → Judged
judged = judged_of 1

abbrev pub samples : List Judged
samples =
    -- "K = -64 passes, -65 is refused 10"; 8,191 passes, 8,192 is refused 10. -64 is `negsuc 63`
    judged (any_dense (negsuc 63) 20) 0
    ∷ judged (any_dense (negsuc 64) 20) 10
    ∷ judged (any_dense (pos 8191) 20) 0
    ∷ judged (any_dense (pos 8192) 20) 10
    -- "a 20-byte block buffer passes, 19 is refused 12"
    ∷ judged (one_constraint 0 20) 0
    ∷ judged (one_constraint 0 19) 12
    ∷ judged (any_dense (pos 0) 20) 0
    ∷ judged (any_dense (pos 0) 19) 12
    -- "Buffers need 4, 20, 20, and 4 bytes per constraint"
    ∷ judged (look_over 4) 0
    ∷ judged (look_over 3) 12
    ∷ judged (sheet_for 0 4) 0
    ∷ judged (sheet_for 0 3) 12
    ∷ judged_of 3 (sheet_for 0 12) 0
    ∷ judged_of 3 (sheet_for 0 11) 12
    ∷ judged (check 0 (replicate 4 0) (pos 0)) 0
    ∷ judged (check 0 (replicate 3 0) (pos 0)) 12
    ∷ judged_of 3 (check 0 (replicate 12 0) (pos 0)) 0
    ∷ judged_of 3 (check 0 (replicate 11 0) (pos 0)) 12
    -- "A sheet buffer of length 0 is too short whenever c exists"
    ∷ judged (sheet_for 0 0) 12
    -- "no constraint has the number c": of one constraint, 0 is a number and 1 is none; 65,536 is not taken for 0
    ∷ judged (one_constraint 1 20) 11
    ∷ judged (one_constraint 65536 20) 11
    ∷ judged (sheet_for 1 4) 11
    ∷ judged (check 1 (replicate 4 0) (pos 0)) 11
    -- "Then 9, 10, 11, 12": where K or the number is bad as well as the room, the room is not the first fault
    ∷ judged (any_dense (pos 8192) 0) 10
    ∷ judged (one_constraint 1 0) 11
    ∷ judged (sheet_for 1 0) 11
    ∷ judged (check 1 [] (pos 0)) 11
    ∷ []

pub as_many : length samples ≡ 27
as_many = refl

pub judged_as_said : map (λ (x : Judged). x.fault) samples ≡ map (λ (x : Judged). x.said) samples
unfolding pick
judged_as_said = refl

-- the drawing's fault comes before those of what is asked
pub drawing_first : first_fault (any_dense (pos 8192) 0) (refused 9) ≡ 9
drawing_first = refl

-- "number of objects and of constraints, 2 bytes each": two objects and 258 constraints
pub both_counts : counts (record { objects = replicate 2 a_point; constraints = replicate 258 (distance 0 1) }) ≡ 2 ∷ 0 ∷ 2 ∷ 1 ∷ []
both_counts = refl

-- "Only the bytes named are written; the rest of a longer buffer stays"
pub the_rest_stays : over (1 ∷ 2 ∷ []) (9 ∷ 8 ∷ 7 ∷ 6 ∷ []) ≡ 1 ∷ 2 ∷ 7 ∷ 6 ∷ []
the_rest_stays = refl

-- "The answer block is 20 bytes": constraint 258, density -3 and the objects 1 and 9 of ten
pub a_block :
    block 10 258 (negsuc 2) (set_of (1 ∷ 9 ∷ []))
    ≡ 2 ∷ 1 ∷ 253 ∷ 255 ∷ 2 ∷ 2 ∷ 0 ∷ 0 ∷ 0 ∷ 0 ∷ 0 ∷ 0 ∷ 0 ∷ 0 ∷ 0 ∷ 0 ∷ 0 ∷ 0 ∷ 0 ∷ 0 ∷ []
unfolding block complement set_bytes set_byte tabulated sum
a_block = refl

-- "object i at bit i mod 8 of byte i / 8": all 128 objects, of which v is in the set if bit v mod 8 of 13 (v / 8) + 29 is 1
pub set_in_bytes :
    set_bytes 128 (λ v. eqb ((13 * (v / 8) + 29) / 2 ^ (v % 8) % 2) 1)
    ≡ 29 ∷ 42 ∷ 55 ∷ 68 ∷ 81 ∷ 94 ∷ 107 ∷ 120 ∷ 133 ∷ 146 ∷ 159 ∷ 172 ∷ 185 ∷ 198 ∷ 211 ∷ 224 ∷ []
unfolding set_bytes set_byte tabulated sum
set_in_bytes = refl

-- density 300, and how both densities are read back
pub a_density : (two (complement (pos 300)) ≡ 44 ∷ 1 ∷ []) × (signed 300 ≡ pos 300) × (signed 65533 ≡ negsuc 2)
unfolding complement signed
a_density = (refl, refl, refl)

-- "2 unsigned bytes a share, 4 bytes a constraint": the shares of constraint 1 in a sheet of two
pub a_sheet :
    (sheet_in (9 ∷ 9 ∷ 9 ∷ 9 ∷ 1 ∷ 3 ∷ 2 ∷ 1 ∷ []) first 1 ≡ 769) × (sheet_in (9 ∷ 9 ∷ 9 ∷ 9 ∷ 1 ∷ 3 ∷ 2 ∷ 1 ∷ []) second 1 ≡ 258)
unfolding two_at
a_sheet = (refl, refl)
