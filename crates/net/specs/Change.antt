-- The four changes that make one listing of a drawing into another, over its entries as read, and any sequence of them. Demand 3:
-- "Renumbering, reordering, exchanging ends, or joining several constraints on a pair into one with the summed weight changes nothing but the
-- names." Assumes nothing.
use Rattle.std.specs.Prelude.{◌≡◌, ◌⊎◌, ℕ, ◌<◌, eqb, length}
use Rattle.density.specs.Sum.{sum, counted}
use Rattle.density.specs.Net.{Proper}
use Rattle.density.specs.Listing.{Matching}
use Rattle.drawing.specs.declared.Constraint.{Constraint}
use Rattle.drawing.specs.Entry.{Drawing, object_at, constraint_at}
use Rattle.drawing.specs.Weight.{constraint_weight}
use Rattle.net.specs.Weighed.{weighed}

-- a constraint with its ends in other numbers, and with its ends exchanged: kind and stated weight stay
abbrev pub renamed : (ℕ → ℕ) → Constraint → Constraint
renamed to c = record { first = to c.first; second = to c.second; kind = c.kind; stated = c.stated }

abbrev pub turned : Constraint → Constraint
turned c = record { first = c.second; second = c.first; kind = c.kind; stated = c.stated }

-- renumbering: the objects come in another order, and the ends of the constraints go with them
pub record Renumbered (d b : Drawing) : Type 0 where
  pub to : ℕ → ℕ
  pub from : ℕ → ℕ
  pub matched : Matching (length d.objects) (length b.objects) to from
  pub same_object : (v : ℕ) → v < length d.objects → object_at b (to v) ≡ object_at d v
  pub as_many : length b.constraints ≡ length d.constraints
  pub same_constraint : (e : ℕ) → e < length d.constraints → constraint_at b e ≡ renamed to (constraint_at d e)

-- reordering: the constraints come in another order
pub record Reordered (d b : Drawing) : Type 0 where
  pub same_objects : b.objects ≡ d.objects
  pub to : ℕ → ℕ
  pub from : ℕ → ℕ
  pub matched : Matching (length d.constraints) (length b.constraints) to from
  pub same_constraint : (e : ℕ) → e < length d.constraints → constraint_at b (to e) ≡ constraint_at d e

-- a constraint as it was, or with its ends exchanged
abbrev pub EitherWay : Constraint → Constraint → Type 0
EitherWay x y = (x ≡ y) ⊎ (x ≡ turned y)

-- exchanging ends: any constraint may name its two ends the other way round
pub record Exchanged (d b : Drawing) : Type 0 where
  pub same_objects : b.objects ≡ d.objects
  pub as_many : length b.constraints ≡ length d.constraints
  pub either_way : (e : ℕ) → e < length d.constraints → EitherWay (constraint_at b e) (constraint_at d e)

-- two constraints on one pair of objects, whichever end comes first
abbrev pub SamePair : Constraint → Constraint → Type 0
SamePair x y = ((x.first ≡ y.first) × (x.second ≡ y.second)) ⊎ ((x.first ≡ y.second) × (x.second ≡ y.first))

-- joining: constraint e goes into constraint `into e`, which is on the same pair; one at least goes into each constraint of b, and its weight
-- in force is the sum of the weights in force of those that go into it. So one that stands alone keeps its weight
pub record Joined (d b : Drawing) : Type 0 where
  pub same_objects : b.objects ≡ d.objects
  pub into : ℕ → ℕ
  pub into_below : (e : ℕ) → e < length d.constraints → into e < length b.constraints
  pub one_at_least : (f : ℕ) → f < length b.constraints → (e : ℕ) × (e < length d.constraints) × (into e ≡ f)
  pub same_pair : (e : ℕ) → e < length d.constraints → SamePair (constraint_at b (into e)) (constraint_at d e)
  pub summed : (f : ℕ) → f < length b.constraints
      → constraint_weight b f ≡ sum (length d.constraints) (λ e. counted (eqb (into e) f) (constraint_weight d e))

pub data Change (d b : Drawing) : Type 0 where
  renumbered : Renumbered d b → Change d b
  reordered : Reordered d b → Change d b
  exchanged : Exchanged d b → Change d b
  joined : Joined d b → Change d b

-- ---- by one change

-- the constraint of b that constraint e of d becomes
abbrev pub turns_into : {d b : Drawing} → Change d b → ℕ → ℕ
turns_into (renumbered r) e = e
turns_into (reordered r) e = r.to e
turns_into (exchanged r) e = e
turns_into (joined r) e = r.into e

-- the number in b of object v of d, and the number in d of object v of b
abbrev pub new_number : {d b : Drawing} → Change d b → ℕ → ℕ
new_number (renumbered r) v = r.to v
new_number (reordered r) v = v
new_number (exchanged r) v = v
new_number (joined r) v = v

abbrev pub old_number : {d b : Drawing} → Change d b → ℕ → ℕ
old_number (renumbered r) v = r.from v
old_number (reordered r) v = v
old_number (exchanged r) v = v
old_number (joined r) v = v

-- ---- by any sequence of changes

-- each is made or undone, and every drawing on the way has ends that name two different objects
pub data Changes : Drawing → Drawing → Type 0 where
  unchanged : {d : Drawing} → Changes d d
  made : {d b a : Drawing} → Proper (weighed d) → Change d b → Changes b a → Changes d a
  undone : {d b a : Drawing} → Proper (weighed b) → Change b d → Changes b a → Changes d a

-- constraint e of d becomes constraint f of a; where a joining is undone, it becomes each of those that went into it
abbrev pub Becomes : {d a : Drawing} → Changes d a → ℕ → ℕ → Type 0
Becomes unchanged e f = e ≡ f
Becomes (made ok c rest) e f = Becomes rest (turns_into c e) f
Becomes (undone {b = b} ok c rest) e f = (g : ℕ) × (g < length b.constraints) × (turns_into c g ≡ e) × Becomes rest g f

-- the number in d of object v of a
abbrev pub was : {d a : Drawing} → Changes d a → ℕ → ℕ
was unchanged v = v
was (made ok c rest) v = old_number c (was rest v)
was (undone ok c rest) v = new_number c (was rest v)
