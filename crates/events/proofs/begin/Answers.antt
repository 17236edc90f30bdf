-- `events::begin` meets its contract: the numbers with one more event, and the outermost begin that its call ensures.
use Rattle.std.proofs.Common.{add-one}
use Rattle.history.specs.Found.{finding_by}
use Rattle.events.specs.Next.{counts_after, tables_after}
use Rattle.events.proofs.begin.Goals as goal

pub returns-clause-value : goal.returns-clause-value
unfolding finding_by
returns-clause-value c = cc

pub returns-clause-run_after : goal.returns-clause-run_after
unfolding counts_after tables_after
returns-clause-run_after c = rw (c.begin_after.ensures, c.counted-next.ensures, add-one)
