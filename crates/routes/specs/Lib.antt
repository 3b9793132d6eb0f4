-- what a reader must believe: marks as a set
pub mod Marked
-- what only states the contracts of the functions
pub mod Chains
pub mod Places
pub mod State
pub mod Search
