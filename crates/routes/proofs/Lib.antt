-- what other crates cite
pub mod AlongChain
pub mod Sums
pub mod Places
pub mod Region
pub mod Moving
-- what only the proofs of this crate use
mod Marking
