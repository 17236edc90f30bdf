-- What the limits on an event ask for.
pub mod Limits  -- the numbers that they ask for
