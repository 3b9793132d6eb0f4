-- The searches of one constraint, one after another. Assumes nothing.
use mathlib.Core.Path.{◌≡◌}
use mathlib.Core.List.{List}
use mathlib.Core.Bool.{Bool, true, false}
use Prim.Native.Nat.{ℕ, ◌<◌}
use Rattle.arrays.specs.At.{at}
use Rattle.routes.specs.Marked.{Clear}
use Rattle.routes.specs.State.{State, both_shares}
use Rattle.routes.specs.Search.{FromConstraint}
use Rattle.settling.specs.Settle.{Kept, Onward, HandingOut, HandedOut}
use Rattle.settling.proofs.settle.Keeping.{dropped, onward_then, kept_moved, onward_moved, kept_no_route, onward_no_route}

-- from s the searches of e have come to t, and e is not marked
pub record Going (m e : ℕ) (ends takes : List ℕ) (s t : State) : Type 0 where
  pub kept : Kept m ends takes t
  pub onward : Onward m ends takes s t
  pub clear : Clear t.constraints e

module _ {m e : ℕ} {ends takes : List ℕ} {s : State} (ask : HandingOut m e ends takes s) {t : State} (going : Going m e ends takes s t)
    (left : both_shares t.shares e < at takes e) {u : State} {found : Bool} {count : ℕ} (after : FromConstraint m e ends t u found count) where
  pub going_no_route : found ≡ false → HandedOut m e ends takes s u
  going_no_route failed = record {
    kept = kept_no_route going.kept ask.is left after failed;
    onward = onward_then going.onward (onward_no_route going.kept ask.is left after failed);
    here = λ _. after.here;
  }

  pub going_on : found ≡ true → Going m e ends takes s (dropped t u)
  going_on is = record {
    kept = kept_moved going.kept ask.is left going.clear (after.searched.moved is);
    onward = onward_then going.onward (onward_moved going.kept ask.is left going.clear (after.searched.moved is));
    clear = going.clear;
  }
