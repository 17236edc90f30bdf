-- The lines of a page.
pub mod Lines  -- the line of a finding, the heading and the foot
pub mod Line  -- what a line is, and which findings have one
