-- what a reader must believe: a sheet as bytes
pub mod Sheet
-- what only states the contracts of the functions
pub mod Checked
