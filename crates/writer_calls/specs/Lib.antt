-- What calls on a writer that are read from bytes lead to.
pub mod Writing  -- the writer and its area after a call
pub mod Changes  -- the bytes that a call changed
