-- `settling::release::release` meets its contract. The invariant: the places of v that are passed are empty, and all else is as it
-- was. Assumes nothing.
use Rattle.std.proofs.Common.{◌≡◌, ◌≢◌, ℕ, ◌*◌, ◌<◌, ◌≤◌}
use Rattle.arrays.specs.At.{at}
use Rattle.routes.proofs.AlongChain.{OnChain}
use Rattle.settling.proofs.release.release.Given as goal

abbrev pub invariant-loop-k : goal.invariant-loop-k
invariant-loop-k l = record {
  same_chains : l.k-iterator.chains.now ≡ l.chains;
  on : OnChain l.chains.constraints l.v l.chains.ends l.k-iterator.left;
  gone : (k : ℕ) → l.k-iterator.left ≤ k → k < 2 * l.chains.constraints → at l.chains.ends k ≡ l.v → at l.sharing.shares k ≡ 0;
  stay : (k : ℕ) → at l.chains.ends k ≢ l.v → at l.sharing.shares k ≡ at l.initial.sharing.shares k;
  stuck : l.sharing.stuck ≡ l.initial.sharing.stuck;
  room : l.sharing.room ≡ l.initial.sharing.room;
}
