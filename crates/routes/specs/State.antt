-- What a search works on: the marks, the shares by place and the room of each object. Assumes nothing.
use Rattle.std.specs.Prelude.{◌≡◌, List, Bool, ℕ, ◌+◌, ◌*◌, ◌/◌, ◌<◌, ◌≤◌, length, T, eqb}
use Rattle.density.specs.Sum.{sum, counted}
use Rattle.limits.specs.Limits.{most_objects, most_constraints, most_ends}
use Rattle.arrays.specs.At.{at}
use Rattle.routes.specs.declared.search.Marks.{Marks}
use Rattle.routes.specs.declared.search.Sharing.{Sharing}
use Rattle.routes.specs.Marked.{Marked}

-- the marks of the objects and of the constraints, the shares by place and the rooms
pub record State : Type 0 where
  pub objects : List ℕ
  pub constraints : List ℕ
  pub shares : List ℕ
  pub room : List ℕ

abbrev pub state : List ℕ → List ℕ → List ℕ → List ℕ → State
state o c s r = record { objects = o; constraints = c; shares = s; room = r }

-- the state that marks and sharing hold
abbrev pub seen_state : Marks → Sharing → State
seen_state marks sharing = state marks.objects sharing.stuck sharing.shares sharing.room

-- each array has its full length
pub record Sized (s : State) : Type 0 where
  pub objects : length s.objects ≡ most_objects
  pub constraints : length s.constraints ≡ most_constraints
  pub shares : length s.shares ≡ most_ends
  pub room : length s.room ≡ most_objects

-- both shares of a constraint
abbrev pub both_shares : List ℕ → ℕ → ℕ
both_shares shares e = at shares (2 * e) + at shares (2 * e + 1)

-- what the object v receives: the shares at its places
unfoldable pub load : ℕ → List ℕ → List ℕ → ℕ → ℕ
load m ends shares v = sum (2 * m) (λ i. counted (eqb (at ends i) v) (at shares i))

-- how many of the first k are not marked
unfoldable pub clears : ℕ → List ℕ → ℕ
clears k l = sum k (λ x. counted (eqb (at l x) 0) 1)

-- "the number of unmarked items"
abbrev pub unmarked : ℕ → State → ℕ
unmarked m s = clears most_objects s.objects + clears m s.constraints

-- no end receives more than a byte holds
abbrev pub Bounded : ℕ → List ℕ → State → Type 0
Bounded m ends s = (i : ℕ) → i < 2 * m → load m ends s.shares (at ends i) + at s.room (at ends i) ≤ 255

-- the shares and the rooms are the same
pub record Unchanged (a b a' b' : List ℕ) : Type 0 where
  pub shares : a' ≡ a
  pub room : b' ≡ b

-- no share has moved
abbrev pub Unmoved : State → State → Type 0
Unmoved s s' = Unchanged s.shares s.room s'.shares s'.room

-- every mark stays
pub record Grown (s s' : State) : Type 0 where
  pub objects : (v : ℕ) → Marked s.objects v → Marked s'.objects v
  pub constraints : (e : ℕ) → Marked s.constraints e → Marked s'.constraints e

-- both ends of e are in S
abbrev pub BothIn : List ℕ → (ℕ → Bool) → ℕ → Type 0
BothIn ends S e = (i : ℕ) → i / 2 ≡ e → T (S (at ends i))

-- 01: "from a full object to any constraint that has put a share there": S contains what the routes come to from its
-- marked objects
abbrev pub GoesOn : ℕ → List ℕ → State → (ℕ → Bool) → Type 0
GoesOn m ends s S =
    (k : ℕ) → k < 2 * m → Marked s.objects (at ends k) → T (S (at ends k)) → 0 < at s.shares k
    → BothIn ends S (k / 2)
