-- The mean exposure of a trace.
pub mod Answers  -- the mean exposure of a trace, or a refusal
pub mod TraceExposure  -- the answer, read off the bytes
