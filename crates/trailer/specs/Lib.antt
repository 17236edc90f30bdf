-- The trailer of a trace file.
pub mod Answers  -- what the end of a trace says
pub mod Trailer  -- the trailer, and the limits 1 to 5
