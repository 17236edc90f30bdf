-- What the programs beside `pmjudge` print.
pub mod Exposure  -- the mean exposure of a trace or the refusal
pub mod Interval  -- a byte's persist interval and its events' sites, or the refusal
pub mod Findings  -- the findings of a trace or the refusal
pub mod Pages  -- findings on pages or the refusal
