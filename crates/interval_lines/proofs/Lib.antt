-- Laws of the lines.
pub mod Sites  -- the line of an event's site
pub mod Size  -- how long the lines are at most
