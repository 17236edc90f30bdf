-- Laws of mean exposure.
pub mod Total  -- sums over bytes
pub mod Divided  -- the sum divided by the number of bytes
pub mod Meaning  -- mean exposure in plain words
