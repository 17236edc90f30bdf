-- The records of a trace given to a run one after another.
pub mod Pass  -- where they lead, as the code goes over them
pub mod Follow  -- where they lead where nobody asks for findings
