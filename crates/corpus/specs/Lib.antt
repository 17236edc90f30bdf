-- A trace of the corpus, judged and counted.
pub mod Agrees  -- a trace is judged as the corpus says
pub mod Tally  -- answers and findings, counted
