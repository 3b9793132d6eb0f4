-- what other crates cite
pub mod Stores
