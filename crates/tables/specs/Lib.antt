-- The tables of a run, and what a judge asks of a run.
pub mod Table  -- a table, and the one way in which it is changed
pub mod Run  -- what a run holds
pub mod View  -- the questions of a judge, answered by a run
pub mod Lent  -- a run that the caller lends part by part
