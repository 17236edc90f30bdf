-- Laws of the calls.
pub mod Findings  -- findings put, one more at a time
