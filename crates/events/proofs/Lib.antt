-- Laws of events given to a run.
pub mod Passed  -- the ranges of an event that no limit refuses are within the tables
pub mod FenceClosed  -- a fence closes the bytes that a judge closes
pub mod NoBytes  -- what a store, a write-back and a log of no bytes do to a run
pub mod Taken  -- what the limits say of an event that they do not refuse
pub mod Steps  -- an event given, from the check of the limits
pub mod Bare  -- a run without the tables that no finding goes by
pub mod WithoutFindings  -- an event followed leads to the run to which it leads when it is given, but for the undo log and the count of findings
