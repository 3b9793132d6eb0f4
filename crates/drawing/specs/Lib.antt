-- what a reader must believe: the kinds, a drawing, the faults of an entry and the weights, with samples
pub mod Choice
pub mod Tabulated
pub mod Table
pub mod Entry
pub mod Fault
pub mod Weight
pub mod Sound
pub mod Samples
-- what only states contracts: the kinds as the code has them, what the arrays of weights hold, and a list with blanks behind it
pub mod Kinds
pub mod WeightArrays
pub mod Padded
-- what only states laws: a drawing at the front of two arrays
pub mod EntryArrays
