-- Laws of what the judge makes of the records of a trace.
pub mod Buffer  -- the buffer for the records of a trace
pub mod Ends  -- the verdict and the area from where the records lead
pub mod JudgedTrace  -- they are those of the trace
