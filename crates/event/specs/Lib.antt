-- Definitions of the crate event.
pub mod Numbers  -- the paper's numbers of events, findings and refusals
pub mod Answers  -- a value, or a refusal
pub mod Reply  -- an answer in these numbers
