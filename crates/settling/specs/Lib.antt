-- what a reader must believe: what the answer for a constraint is
pub mod Solved
-- what only states the contracts of the functions
pub mod Settle
pub mod Release
pub mod Answer
