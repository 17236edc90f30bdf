-- Laws of the lines of a page.
pub mod Padded  -- the name of a finding and a foot, put into blanks
pub mod Columns  -- every line has 61 columns and a line feed
pub mod Squeezed  -- a line with its blanks squeezed is the line of the listing
