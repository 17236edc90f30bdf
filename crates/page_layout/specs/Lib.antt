-- The text of the pages of a findings area.
pub mod Pages  -- page and pages
pub mod Rows  -- how many findings are shown of one
pub mod Printed  -- printed pages, as a reader takes their lines apart
