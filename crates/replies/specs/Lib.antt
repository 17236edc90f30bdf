-- Answers as numbers.
pub mod Numbers  -- the numbers of an answer
