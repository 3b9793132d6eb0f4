-- what other crates cite
pub mod Sums
pub mod Integers
pub mod Tests
pub mod EveryNumber
pub mod EverySet
pub mod Shares
pub mod OneAnswer
pub mod Matching
pub mod Listing
pub mod Changes
pub mod Example
-- a theorem that no other crate cites, for a reader
pub mod Exists
-- what the proofs of this crate share
mod Holding
