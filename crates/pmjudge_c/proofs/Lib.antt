-- Laws of the calls for C.
pub mod Row  -- the numbers of an answer in a row of any length
pub mod Calls  -- what the calls answer and leave, from what the calls beneath them ensure
pub mod Meaning  -- what stands at each place of an answer
