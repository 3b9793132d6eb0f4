-- what other crates cite: choices by tests, lists of values, faults, the weights
pub mod Choice
pub mod Tabulated
pub mod Faults
pub mod WeightRange
pub mod WeightKept
-- theorems that no other crate cites, for a reader
pub mod DrawingIn
pub mod EitherOrder
pub mod NoOther
-- what only the proofs of this crate use
mod Fronts
mod Filled
