-- Theorems on the definitions, which other crates may cite too.
pub mod Meaning
