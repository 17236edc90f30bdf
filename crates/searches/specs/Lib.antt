-- Searches over the tables.
pub mod Tests  -- the tests that they make, and what they find
