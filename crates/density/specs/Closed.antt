-- Sets that no route leaves. 01, 'Shares'. Assumes nothing.
use Rattle.std.specs.Prelude.{◌≡◌, ◌≢◌, ℕ, ◌<◌, T}
use Rattle.density.specs.Net.{Net, Set, Side, first, second, holds}
use Rattle.density.specs.Sheet.{Sheet, gives, received}

-- M contains every object that a route comes to, if it starts anywhere or from an object of M
pub record Closed (d : Net) (s : Sheet) (M : Set) : Type 0 where
  -- "A route starts at a constraint with weight left; from a constraint it may go to either of its objects"
  pub starts : (e : ℕ) → e < d.constraints → gives s e < d.takes e → T (holds d M e)
  -- "and from a full object to any constraint that has put a share there"
  pub goes_on : (i : Side) (e : ℕ) → e < d.constraints → T (M (d.end i e)) → 0 < s i e → T (holds d M e)

-- "An object with no room is full; c's two ends always are."
abbrev pub Full : Net → ℕ → Sheet → ℕ → Type 0
Full d c s v = v ≢ d.end first c → v ≢ d.end second c → received d s v ≡ d.weight v

-- every object of M is full
abbrev pub AllFull : Net → ℕ → Sheet → Set → Type 0
AllFull d c s M = (v : ℕ) → v < d.objects → T (M v) → Full d c s v
