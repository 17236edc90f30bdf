-- Laws that the proofs of the code cite, and what the definitions mean.
pub mod Parts  -- parts of a list
pub mod SameBytes  -- two strings compared byte by byte
pub mod Lines  -- the check of a line count
pub mod FileLimits  -- the limits 1 to 5 one after another
pub mod Written  -- the bytes of a trailer, as the writer puts them
