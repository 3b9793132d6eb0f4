-- What the route search asks and what it answers. Assumes nothing.
use Rattle.std.specs.Prelude.{◌≡◌, List, Bool, true, false, ℕ, ◌+◌, ◌-◌, ◌*◌, ◌/◌, ◌<◌, ◌≤◌, T, eqb, set}
use Rattle.density.specs.Sum.{counted}
use Rattle.limits.specs.Limits.{most_objects, most_ends}
use Rattle.routes.specs.declared.search.Sharing.{Sharing}
use Rattle.arrays.specs.At.{at}
use Rattle.routes.specs.Marked.{Marked, Clear}
use Rattle.routes.specs.State.{State, Sized, Unmoved, Grown, BothIn, GoesOn, Bounded, both_shares, load, unmarked}

-- what a search from the constraint e asks
pub record ReadyConstraint (m e : ℕ) (ends : List ℕ) (s : State) : Type 0 where
  pub bounded : Bounded m ends s
  pub is : e < m
  pub clear : Clear s.constraints e

-- what a search to the object at the place i asks
pub record ReadyObject (m i : ℕ) (ends : List ℕ) (s : State) : Type 0 where
  pub bounded : Bounded m ends s
  pub is : i < 2 * m

-- no route was found: nothing moved, and the new marks are a region that no route leaves
pub record NoRoute (m : ℕ) (ends : List ℕ) (from : (ℕ → Bool) → Type 0) (s s' : State) : Type 0 where
  pub unmoved : Unmoved s s'
  -- "from a constraint it may go to either of its objects"
  pub closed : (e : ℕ) → Clear s.constraints e → Marked s'.constraints e
      → (i : ℕ) → i / 2 ≡ e → Marked s'.objects (at ends i)
  -- "An object with no room is full"
  pub full : (v : ℕ) → Clear s.objects v → Marked s'.objects v → at s.room v ≡ 0
  -- "and from a full object to any constraint that has put a share there"
  pub goes_on : (k : ℕ) → k < 2 * m → Clear s.objects (at ends k) → Marked s'.objects (at ends k)
      → 0 < at s.shares k → Marked s'.constraints (k / 2)
  -- the new marks lie in every set that has the start and that the routes from its marked objects do not leave
  pub least : (S : ℕ → Bool) → GoesOn m ends s' S → from S
      → (v : ℕ) → Clear s.objects v → Marked s'.objects v → T (S v)

-- a route was found: e gives one share more, every other constraint what it gave, and what each object receives and has
-- room for stays in sum
pub record Moved (m e : ℕ) (ends : List ℕ) (s s' : State) : Type 0 where
  pub both_shares_are : (x : ℕ) → both_shares s'.shares x ≡ both_shares s.shares x + counted (eqb e x) 1
  pub loads : (v : ℕ) → load m ends s'.shares v + at s'.room v ≡ load m ends s.shares v + at s.room v
  pub rooms : (v : ℕ) → at s'.room v ≤ at s.room v
  -- nothing at a marked object changes
  pub kept : (k : ℕ) → k < 2 * m → Marked s.objects (at ends k) → at s'.shares k ≡ at s.shares k

-- what a search for e comes to: the number of new marks, and what happened. `from` says of a set that it has the start
pub record Searched (m e : ℕ) (ends : List ℕ) (from : (ℕ → Bool) → Type 0) (s s' : State) (found : Bool) (count : ℕ)
    : Type 0 where
  pub sized : Sized s'
  pub grown : Grown s s'
  pub counts : count + unmarked m s' ≡ unmarked m s
  pub no_route : found ≡ false → NoRoute m ends from s s'
  pub moved : found ≡ true → Moved m e ends s s'

-- what a search from the constraint e comes to: e is marked
pub record FromConstraint (m e : ℕ) (ends : List ℕ) (s s' : State) (found : Bool) (count : ℕ) : Type 0 where
  pub searched : Searched m e ends (λ S. BothIn ends S e) s s' found count
  pub here : Marked s'.constraints e

-- what a search to the object at the place i comes to: the object is marked if there is no route
pub record FromObject (m i : ℕ) (ends : List ℕ) (s s' : State) (found : Bool) (count : ℕ) : Type 0 where
  pub searched : Searched m (i / 2) ends (λ S. T (S (at ends i))) s s' found count
  pub here : found ≡ false → Marked s'.objects (at ends i)

-- r says whether the place k has a share of a constraint that is not marked
pub record Waiting (k : ℕ) (constraints shares : List ℕ) (r : Bool) : Type 0 where
  pub yes : r ≡ true → (0 < at shares k) × Clear constraints (k / 2)
  pub no : r ≡ false → 0 < at shares k → Marked constraints (k / 2)

-- the shares with one less at k, with one more at i, and with one gone from k to i
abbrev pub lowered : ℕ → List ℕ → List ℕ
lowered k shares = set shares k (at shares k - 1)

abbrev pub raised : ℕ → List ℕ → List ℕ
raised i shares = set shares i (at shares i + 1)

abbrev pub shifted : ℕ → ℕ → List ℕ → List ℕ
shifted k i shares = raised i (lowered k shares)

-- what one share more at the place i, from the room of v, asks: the share fits two bytes
pub record UsingRoom (i v : ℕ) (shares room : List ℕ) : Type 0 where
  pub place : i < most_ends
  pub object : v < most_objects
  pub fits : at shares i < 65535
  pub has_room : 0 < at room v

-- one share more at the place i, and one less of the room of v
abbrev pub room_used : ℕ → ℕ → Sharing → Sharing
room_used i v s = record s { shares = raised i s.shares; room = set s.room v (at s.room v - 1) }

-- what a share that goes from the place k to the place i asks: it fits two bytes there
pub record Shifting (k i : ℕ) (shares : List ℕ) : Type 0 where
  pub from : k < most_ends
  pub to : i < most_ends
  pub some : 0 < at shares k
  pub fits : at (lowered k shares) i < 65535

-- one share gone from the place k to the place i
abbrev pub share_passed : ℕ → ℕ → Sharing → Sharing
share_passed k i s = record s { shares = shifted k i s.shares }
