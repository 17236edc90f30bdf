-- What the program's report is.
pub mod Report  -- what a call of the report gave
