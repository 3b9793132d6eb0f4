-- what a reader must believe
pub mod Sum
pub mod Net
pub mod Density
pub mod Top
pub mod Sheet
pub mod Listing
pub mod Example
-- what only states inner laws
pub mod Change
pub mod Closed
