-- Laws of the calls of a writer.
pub mod AfterWriting  -- the writer and its area after an event
pub mod Differences  -- the first byte that differs, place by place
pub mod Pattern  -- bytes of a pattern
pub mod Sums  -- a sum of bytes, one byte more at a time
