-- The report reads 6,000 bytes at most. 01: "that prefix gives every longer input its refusal". Assumes nothing.
use Rattle.std.proofs.Common.{ℕ, ◌<◌, List, length, take, lit≤}
use Rattle.records.specs.Read.{read}
use Rattle.records.proofs.Prefix.{RefusedAlike, prefix_refused}

pub longer_input_refused : (s : List ℕ) → 6000 < length s → RefusedAlike (read s) (read (take 6000 s))
longer_input_refused s longer = prefix_refused s 6000 (lit≤ tt) longer
