-- An example: a net, and what is claimed of it. 01, 'Small drawings to be proved', has its results in this form. Assumes nothing.
use Rattle.std.specs.Prelude.{◌≡◌, List, [], ◌∷◌, false, ◌||◌, ℕ, ◌<◌, eqb, ℤ, pos, length, get_or}
use Rattle.density.specs.Net.{Net, Proper, Set}
use Rattle.density.specs.Top.{AnswerSet, NoneAt, LowestAbove}

-- a result: the density of a constraint and the members of its set
pub record Result : Type 0 where
  pub density : ℤ
  pub members : List ℕ

-- what is said of a K: none, or the lowest-numbered constraint above it
pub data Said : Type 0 where
  none_at : ℤ → Said
  dense_at : ℤ → ℕ → Said

-- the net, the result for each of its constraints, and what is said of some K
pub record Example : Type 0 where
  pub net : Net
  pub results : List Result
  pub said : List Said

-- the set of the listed objects
abbrev pub set_of : List ℕ → Set
set_of [] v = false
set_of (x ∷ xs) v = eqb x v || set_of xs v

-- the result for constraint c
abbrev pub result_of : Example → ℕ → Result
result_of x c = get_or x.results c (record { density = pos 0; members = [] })

-- the i-th thing that is said of a K
abbrev pub said_at : Example → ℕ → Said
said_at x i = get_or x.said i (none_at (pos 0))

-- it is so
abbrev pub IsSo : Net → Said → Type 0
IsSo d (none_at k) = NoneAt d k
IsSo d (dense_at k c) = LowestAbove d k c

-- the example is correct, by the definitions
pub record Correct (x : Example) : Type 0 where
  pub proper : Proper x.net
  pub as_many : length x.results ≡ x.net.constraints
  -- each constraint has the result's density as its top density, and the result's set is its answer set
  pub answers : (c : ℕ) → c < x.net.constraints → AnswerSet x.net c (result_of x c).density (set_of (result_of x c).members)
  pub said_so : (i : ℕ) → i < length x.said → IsSo x.net (said_at x i)
