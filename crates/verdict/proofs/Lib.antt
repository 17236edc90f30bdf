-- Laws of what the judge answers to a trace and leaves in the area.
pub mod Order  -- the checks of a trace in their order
pub mod Outcome  -- the verdict and the area for either outcome of the check
pub mod Size  -- how many bytes the findings take
