-- Laws of the lines of findings.
pub mod Names  -- the names of the findings
pub mod Rows  -- the findings of an area that are shown, one after another
pub mod FindingLines  -- the lines of an area, one after another
pub mod Listed  -- the lines of an area, cut: one for each finding that is shown
pub mod Meaning  -- the finding lines of document 01's whole run
