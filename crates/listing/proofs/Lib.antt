-- Laws of the report.
pub mod Area  -- the lines of the findings area of an accepted trace
pub mod Whole  -- the report of a trace, from what the judge answers
pub mod Size  -- no report is longer than so many bytes
pub mod Meaning  -- the whole run of document 01 as text
