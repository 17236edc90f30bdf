-- What the definitions say, and laws of bytes laid at a place.
pub mod Meaning
pub mod Placed  -- bytes put at a place of a slice
