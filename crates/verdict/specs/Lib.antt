-- A whole trace judged into a findings area.
pub mod Answers  -- what the judge answers to a trace
pub mod Verdict  -- what the judge answers, and what the findings area then holds
