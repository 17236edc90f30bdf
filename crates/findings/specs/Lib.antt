-- The findings of events.
pub mod Findings  -- those of a persisted and of an end, from the tables
