-- what a reader must believe: the block, the faults, and the questions, with samples
pub mod Block
pub mod Range
pub mod Fault
pub mod Outcome
pub mod Question
pub mod Samples
-- what only states the contracts of the functions inside
pub mod Counting
pub mod Written
