-- A choice by a test. Assumes nothing.
use Rattle.std.specs.Prelude.{Bool, true, false}

-- x where the test holds, y where it does not
unfoldable pub pick {ℓ} : {X : Type ℓ} → Bool → X → X → X
pick true x y = x
pick false x y = y
