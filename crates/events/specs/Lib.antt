-- What an event does to a run, whatever the run holds.
pub mod Next  -- the run after an accepted event
pub mod Give  -- an event given to a run
pub mod Follow  -- an event given where nobody asks for findings
