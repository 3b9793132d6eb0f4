-- what a reader must believe: the bytes and a reading, with small drawings read by them
pub mod Format
pub mod Read
pub mod Longest
pub mod Samples
-- what only states contracts: what the code's enums mean
pub mod Meant
