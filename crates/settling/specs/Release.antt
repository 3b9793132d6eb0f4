-- Releasing an object: its shares go back to their constraints, and its room becomes 0. Assumes nothing.
use Rattle.std.specs.Prelude.{◌≡◌, ◌≢◌, List, ℕ, ◌*◌, ◌<◌}
use Rattle.arrays.specs.At.{at}
use Rattle.routes.specs.declared.search.Sharing.{Sharing}

-- no share is left at v, and it has no room; all else is as before
pub record Released (m v : ℕ) (ends : List ℕ) (s s' : Sharing) : Type 0 where
  pub stuck : s'.stuck ≡ s.stuck
  pub gone : (k : ℕ) → k < 2 * m → at ends k ≡ v → at s'.shares k ≡ 0
  pub stay : (k : ℕ) → at ends k ≢ v → at s'.shares k ≡ at s.shares k
  pub no_room : at s'.room v ≡ 0
  pub rooms : (u : ℕ) → u ≢ v → at s'.room u ≡ at s.room u
