-- Laws of what is printed.
pub mod Exposure  -- the mean exposure or the refusal in the text
pub mod Interval  -- the interval or the refusal in the text
pub mod Findings  -- the findings or the refusal in the area
pub mod Pages  -- the pages or the refusal in the text
