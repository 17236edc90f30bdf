-- Writes to the tables.
pub mod Fenced  -- the closing fence of a byte after a fence
