-- Laws of counting.
mod Passing
