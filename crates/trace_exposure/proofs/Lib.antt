-- Laws of the mean exposure of a trace.
pub mod Ends  -- the answer from where the records lead
pub mod Trace  -- it is that of the trace
