-- what the small drawings show
pub mod Table
pub mod Errors
pub mod Listings
