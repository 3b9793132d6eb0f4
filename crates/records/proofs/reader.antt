-- one turn of reading
mod Turn
