-- The text that the program prints for a trace.
pub mod Report  -- all that is printed for a trace
