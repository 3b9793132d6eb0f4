-- Laws of the writer of a block.
mod Writing
