-- Laws of the pages.
pub mod Rows  -- the lines of findings, and the pages, one after another
pub mod Size  -- how long the pages are
pub mod Printed  -- the pages, cut into lines
pub mod Listed  -- the lines of the pages with their blanks squeezed are those of the listing
pub mod Meaning  -- the page of the whole run of document 01
