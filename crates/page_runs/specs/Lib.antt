-- What calls on a findings area and a page area that are read from bytes lead to.
pub mod Setting  -- the findings area after a call
pub mod Laying  -- the page area after a call
