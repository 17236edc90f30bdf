-- A trace file: its records, and what refuses them.
pub mod Answers  -- what a check of all records says
pub mod Records  -- the records and their events
pub mod Checked  -- records refused one after another, and the closing
pub mod Layout  -- a trace as its parts lie
