-- Laws of searches over pairs.
pub mod Broken  -- the test of a pair
pub mod FromFront  -- a search, one turn of nested loops at a time
pub mod Searched  -- what a search found, by its answer
