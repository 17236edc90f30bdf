-- What each call on a run does, and what a run holds after the events given to it.
pub mod Answers  -- what a byte asked gets, and a run that is closed
pub mod Call  -- a fresh window, a byte asked, a run closed
pub mod Reply  -- their answers in the paper's numbers
pub mod Given  -- events given one after another
pub mod Tracks  -- what a run's tables hold after a history
