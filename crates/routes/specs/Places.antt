-- One step along a chain. Assumes nothing.
use Rattle.std.specs.Prelude.{◌≡◌, ℕ, suc, Option}
use Rattle.std.specs.Option.{MatchOption}
use Rattle.arrays.specs.At.{at}
use Rattle.routes.specs.declared.chains.Places.{Places}

-- from s the next place is the one before left, and t goes on from what the chain has there; none is left at 0
abbrev pub Passes : Places → Option ℕ → Places → Type 0
Passes s r t = (t.chains.now ≡ s.chains.now) × MatchOption r (s.left ≡ 0) (λ k. (s.left ≡ suc k) × (t.left ≡ at s.chains.now.next k))
