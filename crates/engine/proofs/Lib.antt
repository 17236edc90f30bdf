-- The link between a run and the events given to it.
pub mod Histories  -- a history after one more event
pub mod ClosingFence  -- the closing fence of a store
pub mod NextFence  -- the closing fence of a store after one more event
pub mod ByEntries  -- a byte's interval and events from a run's entries
pub mod NextEntries  -- its last store, closing fence and first write-back after one more event
pub mod Filled  -- a table filled at the bytes or lines of a range
pub mod Sizes  -- the sizes of the tables
pub mod Entries  -- each table entry after an event
pub mod OneEvent  -- a run after one more accepted event
pub mod FreshWindow  -- the run of a fresh window
pub mod Answered  -- the answer to an event given
pub mod Link  -- a run that grew from a fresh window tracks the accepted events
