-- Laws of the limits on an event.
pub mod Parts  -- limits checked part by part
pub mod Joined  -- the two checks of the code are the check of all limits
pub mod Passed  -- what holds of an event that no limit refuses
