-- Laws of what is filled, compared and counted.
pub mod Compared  -- what is left and printed, compared with what the corpus says
pub mod Counted  -- answers, and the findings of an area one after another
