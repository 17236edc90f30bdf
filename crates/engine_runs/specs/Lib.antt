-- What calls that are read from bytes lead to.
pub mod Runs  -- the run after a call
