-- Laws of searches.
pub mod FromFront  -- a search, one turn of a loop at a time
pub mod Parts  -- a search, part by part
pub mod Searched  -- what a search found, by its answer
pub mod EndLine  -- a search of the window, one line at a time
