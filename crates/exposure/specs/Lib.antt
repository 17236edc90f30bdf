-- Mean exposure.
pub mod Answers  -- what a run answers that is asked for its mean exposure
pub mod Exposure  -- the sums over a window's bytes, and the answer
