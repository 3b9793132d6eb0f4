-- what other crates cite
pub mod Within
pub mod Changes
-- laws of the door from bytes to a net
mod Ends
mod Standing
