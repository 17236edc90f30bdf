-- Laws of the persist interval of a byte after a trace.
pub mod RecordSite  -- the site of a record, read from its bytes
pub mod EventSites  -- it is that of the accepted event with the record's number
pub mod Ends  -- the answer from where the records lead
pub mod Trace  -- it is that of the trace
