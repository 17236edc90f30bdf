-- What the judge makes of the records of a trace.
pub mod Ends  -- the buffer for them, and the verdict and the area from where they lead
