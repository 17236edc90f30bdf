-- The answers and a writer as numbers, for programs in C or Rust.
pub mod Answer  -- an answer as a list of fixed length
pub mod Interval  -- the answer to a byte asked
pub mod Writer  -- a writer and the answers to its calls
