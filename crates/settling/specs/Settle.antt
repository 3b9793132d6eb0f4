-- What settling asks, what it keeps and what it comes to. Assumes nothing.
use Rattle.std.specs.Prelude.{◌≡◌, List, Bool, true, false, ℕ, ◌+◌, ◌*◌, ◌/◌, ◌<◌, ◌≤◌, T}
use Rattle.limits.specs.Limits.{most_constraints}
use Rattle.arrays.specs.At.{at}
use Rattle.routes.specs.Marked.{Marked, Clear}
use Rattle.routes.specs.State.{State, BothIn, GoesOn, Bounded, both_shares, load}

-- 01: "A route starts at a constraint with weight left": S holds every marked constraint with weight left
abbrev pub Starts : ℕ → List ℕ → List ℕ → State → (ℕ → Bool) → Type 0
Starts m ends takes s S =
    (e : ℕ) → e < m → Marked s.constraints e → both_shares s.shares e < at takes e → BothIn ends S e

-- the shares of a constraint are within its weight, and the marked objects are a region that no route leaves, the least
-- one with its own starts
pub record Kept (m : ℕ) (ends takes : List ℕ) (s : State) : Type 0 where
  pub bounded : Bounded m ends s
  pub fits : (e : ℕ) → e < m → both_shares s.shares e ≤ at takes e
  pub closed : (e : ℕ) → e < m → Marked s.constraints e
      → (i : ℕ) → i / 2 ≡ e → Marked s.objects (at ends i)
  pub full : (v : ℕ) → Marked s.objects v → at s.room v ≡ 0
  pub goes_on : (k : ℕ) → k < 2 * m → Marked s.objects (at ends k)
      → 0 < at s.shares k → Marked s.constraints (k / 2)
  pub least : (S : ℕ → Bool) → Starts m ends takes s S → GoesOn m ends s S
      → (v : ℕ) → Marked s.objects v → T (S v)

-- e has given all its weight, or is stuck
abbrev pub Done : List ℕ → State → ℕ → Type 0
Done takes s e = both_shares s.shares e < at takes e → Marked s.constraints e

-- what each object receives and has room for stays in sum, and what is done stays done
pub record Onward (m : ℕ) (ends takes : List ℕ) (s s' : State) : Type 0 where
  pub loads : (v : ℕ) → load m ends s'.shares v + at s'.room v ≡ load m ends s.shares v + at s.room v
  pub done : (e : ℕ) → e < m → Done takes s e → Done takes s' e

-- what handing out the weight of e asks: the state is kept, and e is not marked
pub record HandingOut (m e : ℕ) (ends takes : List ℕ) (s : State) : Type 0 where
  pub kept : Kept m ends takes s
  pub is : e < m
  pub clear : Clear s.constraints e

-- e has handed out its weight, or is stuck
pub record HandedOut (m e : ℕ) (ends takes : List ℕ) (s s' : State) : Type 0 where
  pub kept : Kept m ends takes s'
  pub onward : Onward m ends takes s s'
  pub here : Done takes s' e

-- every constraint has given all its weight, or is stuck
pub record Settled (m : ℕ) (ends takes : List ℕ) (s s' : State) : Type 0 where
  pub kept : Kept m ends takes s'
  pub onward : Onward m ends takes s s'
  pub all : (e : ℕ) → e < m → Done takes s' e

-- the constraint e has given no more than its weight
pub record WithinWeight (e : ℕ) (takes shares : List ℕ) : Type 0 where
  pub is : e < most_constraints
  pub fits : both_shares shares e ≤ at takes e

-- r says whether e has weight left and is not marked
pub record NeedsRoute (e : ℕ) (takes constraints shares : List ℕ) (r : Bool) : Type 0 where
  pub yes : r ≡ true → (both_shares shares e < at takes e) × Clear constraints e
  pub no : r ≡ false → both_shares shares e < at takes e → Marked constraints e
