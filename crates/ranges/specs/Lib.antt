-- Definitions of ranges.
pub mod Ranges
