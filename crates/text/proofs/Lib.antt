-- Laws of text.
pub mod Decimal  -- what the digits of a number say
pub mod Library  -- the library's decimal of a number is this crate's
pub mod Puts  -- text put into a slice, one part after another
pub mod Filled  -- what text leaves in a slice
pub mod Fields  -- text in a field of so many columns
pub mod Occurs  -- how often a byte occurs in a text
pub mod Cut  -- texts cut at their line feeds, lines with their blanks squeezed
