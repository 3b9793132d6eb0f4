-- Samples that hold the definitions to 01, computed: the weights of the objects, the table of constraints written out, the faults of entries
-- from both sides and in their order, and stated weights. Assumes nothing.
use Rattle.std.specs.Prelude.{◌≡◌, refl, true, false, List, [], ◌∷◌, map, ℕ, suc, length}
use Rattle.drawing.specs.Choice.{pick}
use Rattle.drawing.specs.Tabulated.{tabulated}
use Rattle.drawing.specs.Table.{object_kind, object_table, allowed, table_weight}
use Rattle.drawing.specs.declared.Object.{Object}
use Rattle.drawing.specs.declared.Constraint.{Constraint}
use Rattle.drawing.specs.Entry.{Drawing}
use Rattle.drawing.specs.Fault.{object_fault, constraint_fault}
use Rattle.drawing.specs.Weight.{in_force, object_weight, constraint_weight}

-- ---- entries: "1 point", "5 rigid cluster"; "1 distance", "3 coincidence", "6 shared point"; none states a weight

abbrev pub a_point : Object
a_point = record { kind = 1; stated = 0 }

abbrev pub a_cluster : Object
a_cluster = record { kind = 5; stated = 0 }

abbrev pub of_kind : ℕ → ℕ → ℕ → Constraint
of_kind k a b = record { first = a; second = b; kind = k; stated = 0 }

abbrev pub distance : ℕ → ℕ → Constraint
distance = of_kind 1

abbrev pub coincidence : ℕ → ℕ → Constraint
coincidence = of_kind 3

abbrev pub shared_point : ℕ → ℕ → Constraint
shared_point = of_kind 6

-- with a stated weight
abbrev pub object_stating : ℕ → Object → Object
object_stating w o = record { kind = o.kind; stated = w }

abbrev pub stating : ℕ → Constraint → Constraint
stating w c = record { first = c.first; second = c.second; kind = c.kind; stated = w }

-- ---- the objects

-- kinds 0 to 7: 1 to 5 are known
pub known_kinds : tabulated 8 object_kind ≡ false ∷ true ∷ true ∷ true ∷ true ∷ true ∷ false ∷ false ∷ []
unfolding tabulated object_kind
known_kinds = refl

-- "1 point, weight 2; 2 line, 2; 3 circle of given radius, 2; 4 circle of free radius, 3; 5 rigid cluster, 3"
pub object_weights : tabulated 5 (λ k. object_table (suc k)) ≡ 2 ∷ 2 ∷ 2 ∷ 3 ∷ 3 ∷ []
unfolding tabulated object_table pick
object_weights = refl

-- ---- the table of constraints, written out

-- the weights of a constraint of kind k: a line for each kind of the first end, 1 to 5, and in it a number for each of the second
abbrev pub row : ℕ → List (List ℕ)
row k = tabulated 5 (λ a. tabulated 5 (λ b. table_weight k (suc a) (suc b)))

abbrev pub none : List ℕ
none = 0 ∷ 0 ∷ 0 ∷ 0 ∷ 0 ∷ []

abbrev pub no_row : List (List ℕ)
no_row = none ∷ none ∷ none ∷ none ∷ none ∷ []

-- the rows of the kinds 0 to 8
abbrev pub rows : List (List (List ℕ))
rows =
    no_row
    -- "1 distance: point and point, point and line, line and line: 1"
    ∷ ((1 ∷ 1 ∷ 0 ∷ 0 ∷ 0 ∷ []) ∷ (1 ∷ 1 ∷ 0 ∷ 0 ∷ 0 ∷ []) ∷ none ∷ none ∷ none ∷ [])
    -- "2 angle, parallel included: line and line: 1"
    ∷ (none ∷ (0 ∷ 1 ∷ 0 ∷ 0 ∷ 0 ∷ []) ∷ none ∷ none ∷ none ∷ [])
    -- "3 coincidence: point and point: 2"
    ∷ ((2 ∷ 0 ∷ 0 ∷ 0 ∷ 0 ∷ []) ∷ none ∷ none ∷ none ∷ none ∷ [])
    -- "4 incidence: point and line, point and circle of either kind: 1"
    ∷ ((0 ∷ 1 ∷ 1 ∷ 1 ∷ 0 ∷ []) ∷ (1 ∷ 0 ∷ 0 ∷ 0 ∷ 0 ∷ []) ∷ (1 ∷ 0 ∷ 0 ∷ 0 ∷ 0 ∷ []) ∷ (1 ∷ 0 ∷ 0 ∷ 0 ∷ 0 ∷ []) ∷ none ∷ [])
    -- "5 tangency: line and circle, circle and circle, either kind: 1"
    ∷ (none ∷ (0 ∷ 0 ∷ 1 ∷ 1 ∷ 0 ∷ []) ∷ (0 ∷ 1 ∷ 1 ∷ 1 ∷ 0 ∷ []) ∷ (0 ∷ 1 ∷ 1 ∷ 1 ∷ 0 ∷ []) ∷ none ∷ [])
    -- "6 shared point: cluster and cluster: 2"
    ∷ (none ∷ none ∷ none ∷ none ∷ (0 ∷ 0 ∷ 0 ∷ 0 ∷ 2 ∷ []) ∷ [])
    -- "7 same centre: circle and circle, either kind: 2"
    ∷ (none ∷ none ∷ (0 ∷ 0 ∷ 2 ∷ 2 ∷ 0 ∷ []) ∷ (0 ∷ 0 ∷ 2 ∷ 2 ∷ 0 ∷ []) ∷ none ∷ [])
    ∷ no_row
    ∷ []

pub table_written_out : tabulated 9 row ≡ rows
unfolding tabulated table_weight allowed pick
table_written_out = refl

-- ---- faults

-- a fault, and what it is said to be
pub record Judged : Type 0 where
  pub fault : ℕ
  pub said : ℕ

-- an object after n objects and m constraints
abbrev pub of_object : ℕ → ℕ → Object → ℕ → Judged
of_object n m o f = record { fault = object_fault n m o; said = f }

-- a constraint after two points and m constraints
abbrev pub of_constraint : ℕ → Constraint → ℕ → Judged
of_constraint m c f = record { fault = constraint_fault 2 m 1 1 c; said = f }

abbrev pub samples : List Judged
samples =
    -- "128 objects pass, 129 are refused 5"; 512 constraints pass, "the 513th constraint" is refused 5
    of_object 127 0 a_point 0
    ∷ of_object 128 0 a_point 5
    ∷ of_constraint 511 (distance 0 1) 0
    ∷ of_constraint 512 (distance 0 1) 5
    -- "stated weight 15 passes, 16 is refused 7"
    ∷ of_object 0 0 (object_stating 15 a_point) 0
    ∷ of_object 0 0 (object_stating 16 a_point) 7
    ∷ of_constraint 0 (stating 15 (distance 0 1)) 0
    ∷ of_constraint 0 (stating 16 (distance 0 1)) 7
    -- "an end that names no object, or both ends the same": of two objects
    ∷ of_constraint 0 (distance 1 0) 0
    ∷ of_constraint 0 (distance 0 2) 8
    ∷ of_constraint 0 (distance 2 0) 8
    ∷ of_constraint 0 (distance 1 1) 8
    -- "4, 5, 8, 6, 7": an object after a constraint, one too many, of an unknown kind, with a stated weight of 16, each put right in turn
    ∷ of_object 128 1 (record { kind = 0; stated = 16 }) 4
    ∷ of_object 128 0 (record { kind = 0; stated = 16 }) 5
    ∷ of_object 0 0 (record { kind = 0; stated = 16 }) 6
    ∷ of_object 0 0 (record { kind = 1; stated = 16 }) 7
    -- a constraint, one too many, from an object to itself, not allowed between two points, with a stated weight of 16
    ∷ of_constraint 512 (stating 16 (of_kind 2 0 0)) 5
    ∷ of_constraint 0 (stating 16 (of_kind 2 0 0)) 8
    ∷ of_constraint 0 (stating 16 (of_kind 2 0 1)) 6
    ∷ of_constraint 0 (stating 16 (of_kind 1 0 1)) 7
    -- an unknown constraint kind is 6
    ∷ of_constraint 0 (of_kind 99 0 1) 6
    ∷ []

pub as_many : length samples ≡ 21
as_many = refl

pub judged_as_said : map (λ (x : Judged). x.fault) samples ≡ map (λ (x : Judged). x.said) samples
unfolding object_fault constraint_fault object_kind table_weight allowed pick
judged_as_said = refl

-- ---- a stated weight replaces the table weight, and is never added to it

-- of a point that states 7 and a distance that states 3; the other point states none
abbrev pub stating_drawing : Drawing
stating_drawing = record { objects = object_stating 7 a_point ∷ a_point ∷ []; constraints = stating 3 (distance 0 1) ∷ distance 1 0 ∷ [] }

pub stated_replaces : (object_weight stating_drawing 0 ≡ 7) × (constraint_weight stating_drawing 0 ≡ 3)
unfolding object_weight constraint_weight in_force pick
stated_replaces = (refl, refl)

pub none_stated : (object_weight stating_drawing 1 ≡ 2) × (constraint_weight stating_drawing 1 ≡ 1)
unfolding object_weight constraint_weight in_force object_table table_weight allowed pick
none_stated = (refl, refl)
