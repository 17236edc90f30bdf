-- `events::take_end` meets its contract: one more event, and one transaction less.
use Rattle.std.proofs.Common.{sub-one}
use Rattle.events.specs.Next.{counts_after, tables_after}
use Rattle.events.proofs.take_end.Goals as goal

pub returns-clause-run_after : goal.returns-clause-run_after
unfolding counts_after tables_after
returns-clause-run_after c = rw (c.counted.ensures, sub-one)
