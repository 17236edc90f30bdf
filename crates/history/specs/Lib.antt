-- What a list of accepted events says, what a crash may leave, and what each finding claims: document 01's words, in its order.
pub mod Count  -- how many, the last and the first of the numbers that pass a test
pub mod History  -- the accepted events and their numbers
pub mod Interval  -- epochs, last stores, persist intervals
pub mod Image  -- crash images, and which are allowed
pub mod Broken  -- bytes kept and lost, broken assertions, the image meant
pub mod Transaction  -- transactions open, the outermost begin
pub mod Assertion  -- the claims of holds, lost and out of order
pub mod Warning  -- the claims of the warnings
pub mod Claim  -- the claim of each event's finding
pub mod View  -- what a judge asks of a run, read off a history
pub mod Refused  -- the refusals 9, 18 and 10 to 12
pub mod Found  -- the finding of an event, computed
pub mod ByEpochs  -- its tests on intervals, by their epochs
pub mod Given  -- events given one after another, and the claim over the whole list
pub mod Small  -- the starred small runs
pub mod Swap  -- neighbours that may change places
