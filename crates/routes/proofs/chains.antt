-- Laws of the chains as they are made.
mod Chaining
