-- Laws of the limits on a start, an event and a closing, and of what follows from them.
pub mod Length  -- the limit 2, without a sum that could wrap
pub mod Passed  -- what holds where the limits pass
pub mod Outcomes  -- the outcome of a call, by what its check says
pub mod Meaning  -- a small file, byte for byte
