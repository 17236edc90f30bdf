-- Searches over pairs of bytes.
pub mod Pairs  -- the pairs that break an order, and what a search finds
