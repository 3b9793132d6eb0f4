-- Samples that hold the definition of reading to 01: bytes, and what they are read to, computed. Assumes nothing.
use Rattle.std.specs.Prelude.{◌≡◌, refl, List, [], ◌∷◌, ◌++◌, map, ℕ, zero, suc, length, replicate}
use Rattle.drawing.specs.Choice.{pick}
use Rattle.drawing.specs.Table.{object_kind, allowed, table_weight}
use Rattle.drawing.specs.Entry.{Drawing, empty_drawing}
use Rattle.drawing.specs.Fault.{object_fault, constraint_fault}
use Rattle.drawing.specs.Samples.{a_point, of_kind, distance, stating}
use Rattle.records.specs.Format.{two_at, body_length, head_fault, record_at}
use Rattle.records.specs.Read.{Reading, refused, accepted, behind_fault, read_from, read}

-- the bytes of a record: a point, a distance between objects a and b with a stated weight, the end
abbrev pub point_record : List ℕ
point_record = 2 ∷ 0 ∷ 1 ∷ 0 ∷ 1 ∷ 0 ∷ []

abbrev pub distance_record : ℕ → ℕ → ℕ → List ℕ
distance_record a b stated = 6 ∷ 0 ∷ 2 ∷ 0 ∷ a ∷ 0 ∷ b ∷ 0 ∷ 1 ∷ stated ∷ []

abbrev pub end_record : List ℕ
end_record = 0 ∷ 0 ∷ 3 ∷ 0 ∷ []

-- so many of a record, one behind the other
abbrev pub times : ℕ → List ℕ → List ℕ
times zero r = []
times (suc n) r = r ++ times n r

-- bytes, and what they are said to be read to
pub record Sample : Type 0 where
  pub bytes : List ℕ
  pub reading : Reading

-- bytes that are refused with a number, and bytes that are accepted, with an end record behind them
abbrev pub is_refused : List ℕ → ℕ → Sample
is_refused s n = record { bytes = s; reading = refused n }

abbrev pub is_accepted : List ℕ → Drawing → Sample
is_accepted s d = record { bytes = s ++ end_record; reading = accepted d }

abbrev pub samples : List Sample
samples =
    -- "The drawing that is one end record (00 00 03 00) passes with counts 0 and 0; no bytes at all is refused 1."
    is_accepted [] empty_drawing
    ∷ is_refused [] 1
    -- C: three points, the distances 0-1, 1-2, 0-2
    ∷ is_accepted (times 3 point_record ++ distance_record 0 1 0 ++ distance_record 1 2 0 ++ distance_record 0 2 0)
    (record { objects = a_point ∷ a_point ∷ a_point ∷ []; constraints = distance 0 1 ∷ distance 1 2 ∷ distance 0 2 ∷ [] })
    -- L: two points and one distance with stated weight 3
    ∷ is_accepted (times 2 point_record ++ distance_record 0 1 3)
    (record { objects = a_point ∷ a_point ∷ []; constraints = stating 3 (distance 0 1) ∷ [] })
    -- "2 bytes: object kind, stated weight": a line that states 7
    ∷ is_accepted (2 ∷ 0 ∷ 1 ∷ 0 ∷ 2 ∷ 7 ∷ []) (record { objects = record { kind = 2; stated = 7 } ∷ []; constraints = [] })
    -- "numbered from 0 in the order in which they are read": a point, that line, and an incidence of object 1 with object 0 that states 5
    ∷ is_accepted (point_record ++ 2 ∷ 0 ∷ 1 ∷ 0 ∷ 2 ∷ 7 ∷ 6 ∷ 0 ∷ 2 ∷ 0 ∷ 1 ∷ 0 ∷ 0 ∷ 0 ∷ 4 ∷ 5 ∷ [])
    (record { objects = a_point ∷ record { kind = 2; stated = 7 } ∷ []; constraints = stating 5 (of_kind 4 1 0) ∷ [] })
    -- "head short (1), 2, 3, body short (1)": three bytes; with a whole head the kind, then the length, and only then whether the body is there
    ∷ is_refused (2 ∷ 0 ∷ 1 ∷ []) 1
    ∷ is_refused (255 ∷ 255 ∷ 9 ∷ 0 ∷ []) 2
    ∷ is_refused (3 ∷ 0 ∷ 1 ∷ 0 ∷ []) 3
    ∷ is_refused (2 ∷ 0 ∷ 1 ∷ 0 ∷ 1 ∷ []) 1
    -- "record kind not 1 to 3", and the length of each kind
    ∷ is_refused (0 ∷ 0 ∷ 0 ∷ 0 ∷ []) 2
    ∷ is_refused (0 ∷ 0 ∷ 4 ∷ 0 ∷ []) 2
    ∷ is_refused (7 ∷ 0 ∷ 2 ∷ 0 ∷ []) 3
    ∷ is_refused (1 ∷ 0 ∷ 3 ∷ 0 ∷ []) 3
    -- "All numbers are little-endian", and each has its two bytes: a length of 2 + 256, a kind of 1 + 256, ends of 0 + 256 and 1 + 256
    ∷ is_refused (2 ∷ 1 ∷ 1 ∷ 0 ∷ 1 ∷ 0 ∷ []) 3
    ∷ is_refused (2 ∷ 0 ∷ 1 ∷ 1 ∷ 1 ∷ 0 ∷ []) 2
    ∷ is_refused (times 2 point_record ++ 6 ∷ 0 ∷ 2 ∷ 0 ∷ 0 ∷ 1 ∷ 1 ∷ 0 ∷ 1 ∷ 0 ∷ []) 8
    ∷ is_refused (times 2 point_record ++ 6 ∷ 0 ∷ 2 ∷ 0 ∷ 0 ∷ 0 ∷ 1 ∷ 1 ∷ 1 ∷ 0 ∷ []) 8
    -- "Objects come first, then constraints": a point after a distance
    ∷ is_refused (times 2 point_record ++ distance_record 0 1 0 ++ point_record) 4
    -- the same with a byte missing: "body short (1), 4"
    ∷ is_refused (times 2 point_record ++ distance_record 0 1 0 ++ 2 ∷ 0 ∷ 1 ∷ 0 ∷ 1 ∷ []) 1
    -- "4, 5, 8, 6, 7": a constraint with a bad end, of an unknown kind and with a stated weight of 16
    ∷ is_refused (point_record ++ 6 ∷ 0 ∷ 2 ∷ 0 ∷ 0 ∷ 0 ∷ 1 ∷ 0 ∷ 99 ∷ 16 ∷ []) 8
    -- "the first faulty one decides": an object of an unknown kind, then a record of an unknown kind
    ∷ is_refused (2 ∷ 0 ∷ 1 ∷ 0 ∷ 9 ∷ 0 ∷ 0 ∷ 0 ∷ 9 ∷ 0 ∷ []) 6
    -- no end record; and a byte behind one
    ∷ is_refused point_record 1
    ∷ is_refused (end_record ++ 0 ∷ []) 9
    -- "128 objects pass, 129 are refused 5"
    ∷ is_accepted (times 128 point_record) (record { objects = replicate 128 a_point; constraints = [] })
    ∷ is_refused (times 129 point_record) 5
    ∷ []

pub as_many : length samples ≡ 26
as_many = refl

pub read_as_said : map (λ (x : Sample). read x.bytes) samples ≡ map (λ (x : Sample). x.reading) samples
unfolding read read_from behind_fault record_at head_fault two_at body_length object_fault constraint_fault object_kind table_weight allowed pick
read_as_said = refl
