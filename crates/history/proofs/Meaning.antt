-- The basic definitions in plain words: what each one says of the list of accepted events.
pub mod Events
pub mod Intervals
pub mod ByEpochs
pub mod Images
pub mod Torn
pub mod Refusals
pub mod Totals
pub mod Accepted
pub mod Transactions
pub mod NoBytes
