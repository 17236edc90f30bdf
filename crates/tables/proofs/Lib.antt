-- Laws of tables, and of ranges within them.
pub mod Table  -- a table after a change
pub mod InTables  -- the part of a range that the tables have
pub mod SinceStore  -- events that count unless they are older than the last store
