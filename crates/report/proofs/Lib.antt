-- a theorem for a reader
pub mod Input
