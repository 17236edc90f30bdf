-- Laws that the proofs of the code cite, and what the definitions mean.
pub mod FirstBytes  -- a record is read from its first 12 bytes
pub mod ReadLimits  -- a record is read by the limits 6 and 7
pub mod RecordsNext  -- the first record of a part, and the others
pub mod ReadBack  -- a trace laid out as its parts is read as them
pub mod KnownBytes  -- a trace that is opened is laid out as its parts
