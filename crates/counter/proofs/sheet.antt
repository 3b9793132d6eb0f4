-- Laws of the writer of a sheet.
mod Writing
