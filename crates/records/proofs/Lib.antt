-- what other crates cite: a reading, and longer bytes
pub mod Reading
pub mod Accepted
pub mod Prefix
-- a theorem that no other crate cites, for a reader
pub mod EnoughTurns
-- what only the proofs of this crate use
mod RecordAt
