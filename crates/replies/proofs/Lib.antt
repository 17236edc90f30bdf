-- Laws on the numbers of answers.
pub mod Filled  -- a list filled up with zeros
pub mod Meaning  -- worked answers
