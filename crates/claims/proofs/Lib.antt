-- The proofs of what is promised.
pub mod Ends  -- laws of an interval that a fence ends
pub mod Rules  -- what the rules of paper 000 do to each part of the status
pub mod Next  -- what one more event does to the interval of a byte and to its write-back
pub mod Paper  -- the rules of paper 000 give the same intervals
pub mod Answers  -- what the run answers after events given from a fresh window
pub mod Calls  -- bytes asked and closings change nothing
pub mod Records  -- the limits on a record, and what reading and checking it say
pub mod Traces  -- which traces are refused, by which number and at which record
pub mod Area  -- records that are all taken, and the bytes of their findings
pub mod Singly  -- an accepted trace has the findings and totals of its events given singly
pub mod Failure  -- an assertion that does not hold is lost or out of order
pub mod Writing  -- what the area of a writer holds, and what each call answers and leaves
pub mod WriterRuns  -- the answers to any calls on a writer
pub mod WriterLimits  -- a writer's calls, whatever the writer
pub mod Paging  -- which findings areas are refused when they are laid out
pub mod Written  -- request 1 holds
pub mod Fits  -- the findings of an accepted trace are bytes
pub mod Paged  -- request 3 holds
pub mod TracePages  -- the findings of an accepted trace, laid out
pub mod Exposed  -- the mean exposure of a run
pub mod TraceExposed  -- the mean exposure of a trace; request 4 holds
pub mod NoBytes  -- request 5 holds
pub mod TraceNamed  -- the persist interval of a byte after a trace
pub mod Named  -- request 7 holds
pub mod Shared  -- request 8 holds
pub mod Demands  -- the demands hold
