-- Laws of settling: what it keeps, and the searches of one constraint.
mod Keeping
mod OneConstraint
