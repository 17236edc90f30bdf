-- The lines around the findings.
pub mod Lines  -- head, foot and refusal, a line each
