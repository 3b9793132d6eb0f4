-- what a reader must believe: the net of a drawing, and the changes that make one listing of a drawing into another
pub mod Weighed
pub mod Change
-- what only states the contracts of the functions
pub mod NetFor
