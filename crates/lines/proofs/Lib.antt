-- Laws of the lines around the findings.
pub mod Cuts  -- head and foot are a line each
pub mod Size  -- how long head, foot and refusal are at most
