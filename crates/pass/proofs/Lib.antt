-- Laws of the pass over the records of a trace.
pub mod RecordsLeft  -- the records that are left after some were given
pub mod Bare  -- records given without the tables that no finding goes by
pub mod Fresh  -- records given to empty tables
pub mod Whole  -- the pass over the records of a trace
pub mod FollowedLeft  -- the records that are left after some were followed
pub mod WithoutFindings  -- records followed lead to the run to which they lead when they are given, but for the undo log and the count of findings
