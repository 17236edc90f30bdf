-- Text.
pub mod Text  -- words and numbers as bytes, and text put into a slice
pub mod Field  -- text in a field of so many columns
pub mod Cursor  -- a cursor's slice and place, and what it has put
pub mod Occurs  -- how often a byte occurs in a text
pub mod Cut  -- a printed text, as a reader takes it apart
