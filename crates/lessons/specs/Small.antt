-- The small drawings of 01 as one table: 'Small drawings to be proved'. Each is a drawing by its entries; its weights are looked up. Assumes
-- nothing.
use Rattle.std.specs.Prelude.{List, [], ◌∷◌, ◌++◌, ℕ, ℤ, pos, neg_ℤ, replicate}
use Rattle.density.specs.Example.{Result, Said, none_at, dense_at, Example}
use Rattle.drawing.specs.declared.Constraint.{Constraint}
use Rattle.drawing.specs.Entry.{Drawing}
use Rattle.drawing.specs.Samples.{a_point, a_cluster, distance, coincidence, shared_point, stating}
use Rattle.net.specs.Weighed.{weighed}

-- a line of the table: the drawing, what it gives for each constraint, and what is said of some K
pub record Line : Type 0 where
  pub drawing : Drawing
  pub results : List Result
  pub said : List Said

-- it is about the net of the drawing
abbrev pub example : Line → Example
example x = record { net = weighed x.drawing; results = x.results; said = x.said }

-- ---- the words of the table: "Points unless said; distances unless said. a-b is a constraint."

-- the drawing of so many points, or clusters, and these constraints
abbrev pub points : ℕ → List Constraint → Drawing
points n cs = record { objects = replicate n a_point; constraints = cs }

abbrev pub clusters : ℕ → List Constraint → Drawing
clusters n cs = record { objects = replicate n a_cluster; constraints = cs }

abbrev pub minus : ℕ → ℤ
minus n = neg_ℤ (pos n)

-- a density and a set
abbrev pub has : ℤ → List ℕ → Result
has t s = record { density = t; members = s }

-- each of n constraints the same
abbrev pub each : ℕ → ℤ → List ℕ → List Result
each n t s = replicate n (has t s)

-- each constraint "its own two ends"
abbrev pub own : ℤ → List Constraint → List Result
own t [] = []
own t (c ∷ cs) = has t (c.first ∷ c.second ∷ []) ∷ own t cs

-- ---- the table

abbrev pub constraints_c : List Constraint
constraints_c = distance 0 1 ∷ distance 1 2 ∷ distance 0 2 ∷ []

abbrev pub constraints_e : List Constraint
constraints_e = distance 0 1 ∷ distance 0 2 ∷ distance 0 3 ∷ distance 1 2 ∷ distance 1 3 ∷ []

abbrev pub constraints_d : List Constraint
constraints_d = constraints_e ++ distance 2 3 ∷ []

abbrev pub objects_d : List ℕ
objects_d = 0 ∷ 1 ∷ 2 ∷ 3 ∷ []

-- "nothing: none at -3"
abbrev pub A : Line
A = record { drawing = points 0 []; results = []; said = none_at (minus 3) ∷ [] }

-- "0-1: -3, {0,1}"
abbrev pub B : Line
B = record { drawing = points 2 (distance 0 1 ∷ []); results = each 1 (minus 3) (0 ∷ 1 ∷ []); said = [] }

-- "0-1, 1-2, 0-2: each -3, its own two ends; none at -3; at -4 constraint 0"
abbrev pub C : Line
C =
    record {
      drawing = points 3 constraints_c;
      results = own (minus 3) constraints_c;
      said = none_at (minus 3) ∷ dense_at (minus 4) 0 ∷ [];
    }

-- "0-1, 0-2, 0-3, 1-2, 1-3, 2-3: each -2, {0,1,2,3}; none at -2"
abbrev pub D : Line
D = record { drawing = points 4 constraints_d; results = each 6 (minus 2) objects_d; said = none_at (minus 2) ∷ [] }

-- "D without 2-3: each -3, its own two ends"
abbrev pub E : Line
E = record { drawing = points 4 constraints_e; results = own (minus 3) constraints_e; said = [] }

-- "three clusters, shared points 0-1, 1-2, 0-2: each -3, {0,1,2}"
abbrev pub F : Line
F =
    record {
      drawing = clusters 3 (shared_point 0 1 ∷ shared_point 1 2 ∷ shared_point 0 2 ∷ []);
      results = each 3 (minus 3) (0 ∷ 1 ∷ 2 ∷ []);
      said = [];
    }

-- "coincidence 0-1: -2, {0,1}"
abbrev pub G : Line
G = record { drawing = points 2 (coincidence 0 1 ∷ []); results = each 1 (minus 2) (0 ∷ 1 ∷ []); said = [] }

-- "0-1 twice: both -2, {0,1}"
abbrev pub H : Line
H = record { drawing = points 2 (distance 0 1 ∷ distance 0 1 ∷ []); results = each 2 (minus 2) (0 ∷ 1 ∷ []); said = [] }

-- "D, then 4-5: constraint 6: -3, {4,5}; constraint 0 as in D"
abbrev pub I : Line
I =
    record {
      drawing = points 6 (constraints_d ++ distance 4 5 ∷ []);
      results = each 6 (minus 2) objects_d ++ has (minus 3) (4 ∷ 5 ∷ []) ∷ [];
      said = [];
    }

-- "D, then 0-4: constraint 6: -3, {0,4}"
abbrev pub J : Line
J =
    record {
      drawing = points 5 (constraints_d ++ distance 0 4 ∷ []);
      results = each 6 (minus 2) objects_d ++ has (minus 3) (0 ∷ 4 ∷ []) ∷ [];
      said = [];
    }

-- "D, then 0-4, 1-4: constraint 6: -2, {0,1,2,3,4}; constraint 0 as in D"
abbrev pub K : Line
K =
    record {
      drawing = points 5 (constraints_d ++ distance 0 4 ∷ distance 1 4 ∷ []);
      results = each 6 (minus 2) objects_d ++ each 2 (minus 2) (0 ∷ 1 ∷ 2 ∷ 3 ∷ 4 ∷ []);
      said = [];
    }

-- "0-1 with stated weight 3: -1, {0,1}"
abbrev pub L : Line
L = record { drawing = points 2 (stating 3 (distance 0 1) ∷ []); results = each 1 (minus 1) (0 ∷ 1 ∷ []); said = [] }

abbrev pub table : List Line
table = A ∷ B ∷ C ∷ D ∷ E ∷ F ∷ G ∷ H ∷ I ∷ J ∷ K ∷ L ∷ []
