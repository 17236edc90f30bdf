-- Numbers and findings as bytes.
pub mod Codec
pub mod Placed  -- bytes laid at a place of a slice
