-- The bytes of a record.
pub mod Record
pub mod Kind  -- kinds and their numbers
