-- `events::take_one` meets its contract: one event more, and nothing else.
use Rattle.events.proofs.take_one.Goals as goal

pub returns-clause-run_after : goal.returns-clause-run_after
returns-clause-run_after c = rw (c.counted-run.ensures)
