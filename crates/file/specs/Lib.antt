-- What each call of a writer answers, what writer it hands over, and what the area then holds.
pub mod Answers  -- what the calls of a writer answer
pub mod Limits  -- what refuses a start, an event and a closing
pub mod Write  -- the calls
pub mod Reply  -- their answers in the paper's numbers
