-- One record given to a run.
pub mod Step  -- what it gets, and its finding put into a buffer
