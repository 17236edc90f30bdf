-- The lines of a byte's persist interval.
pub mod Lines  -- the byte's epochs and events, and the events' sites
