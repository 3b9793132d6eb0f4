-- Two listings of one drawing, by weights alone: what the constraints on each pair of objects take in sum. Demand 3: renumbering, reordering,
-- exchanging ends, or joining several constraints on a pair into one with the summed weight changes nothing but the names. Assumes nothing.
use Rattle.std.specs.Prelude.{◌≡◌, Bool, ◌&&◌, ◌⊎◌, ℕ, ◌+◌, ◌<◌, eqb}
use Rattle.density.specs.Sum.{sum, counted}
use Rattle.density.specs.Net.{Net, Set, first, second}

-- constraint e goes from u to v: its first end is u, its second v
abbrev pub goes : Net → ℕ → ℕ → ℕ → Bool
goes d e u v = eqb (d.end first e) u && eqb (d.end second e) v

-- constraint e is between u and v, whichever of the two is its first end
abbrev pub Between : Net → ℕ → ℕ → ℕ → Type 0
Between d e u v = ((d.end first e ≡ u) × (d.end second e ≡ v)) ⊎ ((d.end first e ≡ v) × (d.end second e ≡ u))

-- what constraint e takes on the pair u, v, whichever of the two is its first end
abbrev pub on_pair : Net → ℕ → ℕ → ℕ → ℕ
on_pair d u v e = counted (goes d e u v) (d.takes e) + counted (goes d e v u) (d.takes e)

-- what all constraints on the pair u, v take
unfoldable pub pair_takes : Net → ℕ → ℕ → ℕ
pair_takes d u v = sum d.constraints (on_pair d u v)

-- the numbers below n and those below k are matched one to one: `to` renumbers, `from` undoes it
pub record Matching (n k : ℕ) (to from : ℕ → ℕ) : Type 0 where
  pub to_below : (v : ℕ) → v < n → to v < k
  pub from_below : (v : ℕ) → v < k → from v < n
  pub from_to : (v : ℕ) → v < n → from (to v) ≡ v
  pub to_from : (v : ℕ) → v < k → to (from v) ≡ v

-- d and b are two listings of one drawing: their objects are matched, matched objects weigh the same, and between matched pairs
-- of objects the constraints take the same
pub record Listings (d b : Net) : Type 0 where
  pub to : ℕ → ℕ
  pub from : ℕ → ℕ
  pub matched : Matching d.objects b.objects to from
  pub same_weight : (v : ℕ) → v < d.objects → b.weight (to v) ≡ d.weight v
  pub same_pairs : (u v : ℕ) → u < d.objects → v < d.objects → pair_takes b (to u) (to v) ≡ pair_takes d u v

-- constraint e of d and constraint f of b correspond: f is between the objects that e's ends are matched with
abbrev pub Corresponds : {d b : Net} → Listings d b → ℕ → ℕ → Type 0
Corresponds {d} {b} l e f = Between b f (l.to (d.end first e)) (l.to (d.end second e))

-- a set of d's objects, in b's numbers
abbrev pub image : {d b : Net} → Listings d b → Set → Set
image l M v = M (l.from v)

-- every constraint takes something: so it is in a drawing, whose weights are 1 to 15
pub record Heavy (d : Net) : Type 0 where
  pub some_weight : (e : ℕ) → e < d.constraints → 0 < d.takes e
