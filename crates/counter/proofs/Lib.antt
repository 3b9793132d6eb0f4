-- the published theorems, and what other crates cite
pub mod Outcomes
pub mod Sizes
pub mod Faults
pub mod ReadBack
pub mod Statements
pub mod Agree
pub mod DemandOne
pub mod DemandTwo
pub mod DemandThree
-- what only the proofs of this crate use
mod Blocks
