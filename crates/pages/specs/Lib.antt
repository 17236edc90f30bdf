-- A findings area laid out in a page area.
pub mod Answers  -- the length written, or a refusal
pub mod Limits  -- what refuses a findings area and a page area
pub mod Paged  -- what laying out answers, and what the page area then holds
