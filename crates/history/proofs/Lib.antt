-- Laws first, then the theorems on findings, then the basic definitions in plain words.
pub mod Count  -- laws of count, last and first
pub mod History  -- laws of event numbers
pub mod Window  -- an event's ranges, its bytes and lines
pub mod Interval  -- last stores, intervals and forced stores
pub mod Image  -- what an allowed crash image can lose
pub mod Search  -- what a search from the front finds
pub mod Tests  -- the computed tests say what crash images say
pub mod NoEffect  -- what stores no byte, writes no line back and is no fence changes no last store and no interval
pub mod Warning  -- the computed warnings meet their claims
pub mod Claim  -- the computed finding meets its claim
pub mod Unique  -- a claim admits one finding only
pub mod Given  -- the answers to a whole list meet the one claim
pub mod Exactly  -- holds is said exactly when no allowed image breaks the assertion
pub mod Meaning  -- the basic definitions in plain words
pub mod Small  -- the starred small runs
pub mod Exchange  -- a number and the next one exchanged
pub mod Swap  -- two neighbours that changed places: event numbers
pub mod SwapSince  -- transactions then
pub mod SwapView  -- what a judge asks then, and intervals
pub mod SwapFinding  -- findings and refusals then
pub mod SwapGiven  -- neighbours given in either order
