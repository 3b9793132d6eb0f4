-- Laws of the search: from a constraint to both its ends, at an object, and from a full object along its chain.
mod AtObject
mod FromFull
mod BothEnds
