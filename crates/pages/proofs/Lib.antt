-- Laws of the answer to a findings area and a page area.
pub mod Undamaged  -- the findings of an area, checked one after another
pub mod Whole  -- the answer, from what the parts of the code answer
