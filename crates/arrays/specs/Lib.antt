-- what a reader must believe: what stands in an array, and the arrays as a net and a sheet
pub mod At
pub mod Arrays
pub mod Held
