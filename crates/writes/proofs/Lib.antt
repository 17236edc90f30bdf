-- Laws of what a fence writes.
pub mod FenceLines  -- the bytes of some lines
