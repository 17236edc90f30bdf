-- `engine::fresh` meets its contract: its run is that in which nothing has happened.
use Rattle.engine.specs.Call.{empty_run}
use Rattle.engine.proofs.fresh.Goals as goal

pub returns-in-Ok : goal.returns-in-Ok
unfolding empty_run
returns-in-Ok c = rw (c.fresh.ensures, ← c.in-Ok.ensures)

pub returns-in-Err : goal.returns-in-Err
unfolding empty_run
returns-in-Err c = rw (c.fresh-in-Err.ensures, ← c.in-Err.ensures)
