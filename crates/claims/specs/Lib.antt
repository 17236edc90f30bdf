-- What is promised: the one place to read it. Each demand is a record of statements, over every list of given events, and so is each
-- request that adds a call, and requests 5, 7 and 8; proofs/Demands.antt has a value of each demand, proofs/Written.antt of request 1,
-- proofs/TracePages.antt of request 3, proofs/TraceExposed.antt of request 4, proofs/NoBytes.antt of request 5, proofs/Named.antt of
-- request 7 and proofs/Shared.antt of request 8.
pub mod After  -- the run, the accepted events and the answers after events given one after another
pub mod Calls  -- calls one after another, bytes asked, closings and mean exposures between the events
pub mod Traces  -- the first record of a trace that is refused; the findings area of an accepted trace
pub mod Writing  -- calls on a writer one after another
pub mod TracesWritten  -- request 1: what a writer wrote is the trace of the accepted events
pub mod Paging  -- a findings area that is laid out: the first damaged finding, and what a refusal leaves
pub mod FindingsPaged  -- request 3: what is on the pages, and that they show the listing's rows
pub mod WhereClosed  -- request 7: the events that the answer of a byte asked names
pub mod MeanExposure  -- request 4: mean exposure
pub mod Demand1  -- refusals: by the first number that applies, by none otherwise, and the run is then what it was
pub mod Paper  -- the rules of paper 000, section 4.4
pub mod Demand2  -- intervals, transaction findings and warnings
pub mod Failure  -- the answers "holds", "lost" and "out-of-order"
pub mod EmptyRanges  -- request 5: ranges of no bytes
pub mod SharedRanges  -- request 8: ranges ordered against themselves
pub mod Renamed  -- event numbers renamed in answers, in findings and in rows
pub mod SwappedNeighbours  -- request 13: neighbours that may change places
pub mod Demand3  -- "holds" exactly when no allowed crash image breaks the assertion; a failure shows one
