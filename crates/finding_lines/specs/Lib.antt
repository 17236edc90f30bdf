-- The lines of findings.
pub mod Lines  -- the line of a finding
pub mod Rows  -- the findings of an area, and those that are shown
pub mod Area  -- the lines of an area's findings, as the code reads them
pub mod Shown  -- the findings that are shown, one after another
