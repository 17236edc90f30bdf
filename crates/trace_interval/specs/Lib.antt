-- The persist interval of a byte after a trace.
pub mod Answers  -- the persist interval of a byte after a trace, or a refusal
pub mod TraceInterval  -- the answer, read off the bytes
