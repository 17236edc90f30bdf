-- The tables that only a byte's answer goes by.
pub mod Now  -- an entry after a write-back or a fence
