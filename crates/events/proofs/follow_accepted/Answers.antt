-- Kind by kind: the limits keep the numbers and the ranges within the tables, and the next run is that of the event, but for the undo log.
use Rattle.std.proofs.Common.{[], ap}
use Rattle.ranges.specs.Ranges.{ranges_of}
use Rattle.limits.proofs.Passed.{begin_below, end_inside}
use Rattle.tables.specs.View.{lines_of}
use Rattle.history.specs.Found.{finding_by}
use Rattle.events.specs.Next.{counts_after, tables_after}
use Rattle.events.proofs.Taken.{room, one_range, taken}
use Rattle.events.proofs.WithoutFindings.{passed_over}
use Rattle.tables.specs.Lent.{lent}
use Rattle.events.proofs.follow_accepted.Goals as goal

pub take_store-requires : goal.take_store-requires
take_store-requires c = one_range c.args.run.now.counts.now c.args.e c.requires _ [] (ap ranges_of c.in-Store.is)

pub take_back-requires : goal.take_back-requires
take_back-requires c = one_range c.args.run.now.counts.now c.args.e c.requires _ [] (ap ranges_of c.in-WriteBack.is)

pub fence-requires : goal.fence-requires
fence-requires c = room c.args.run.now.counts.now c.args.e c.requires

pub begin-requires : goal.begin-requires
begin-requires c =
    let k = c.args.run.now.counts.now in
    (room k c.args.e c.requires, begin_below (lines_of k) k.events k.depth (taken k c.args.e c.requires c.in-Begin.is))

pub take_end-requires : goal.take_end-requires
take_end-requires c =
    let k = c.args.run.now.counts.now in
    (room k c.args.e c.requires, end_inside (lines_of k) k.events k.depth (taken k c.args.e c.requires c.in-End.is))

pub take_one-requires : goal.take_one-requires
take_one-requires c = room c.args.run.now.counts.now c.args.e c.requires

pub returns-in-Store-clause-run_after : goal.returns-in-Store-clause-run_after
unfolding tables_after
returns-in-Store-clause-run_after c = rw (c.in-Store.is, c.take_store.ensures.run_after)

pub returns-in-WriteBack-clause-run_after : goal.returns-in-WriteBack-clause-run_after
unfolding tables_after
returns-in-WriteBack-clause-run_after c = rw (c.in-WriteBack.is, c.take_back.ensures.run_after)

pub returns-in-Fence-clause-run_after : goal.returns-in-Fence-clause-run_after
unfolding counts_after tables_after finding_by
returns-in-Fence-clause-run_after c = rw (c.in-Fence.is, c.fence.ensures.run_after, c.fence.ensures.value)

pub returns-in-Begin-clause-run_after : goal.returns-in-Begin-clause-run_after
unfolding counts_after tables_after finding_by
returns-in-Begin-clause-run_after c = rw (c.in-Begin.is, c.begin.ensures.run_after, c.begin.ensures.value)

pub returns-in-End-clause-run_after : goal.returns-in-End-clause-run_after
unfolding tables_after
returns-in-End-clause-run_after c = rw (c.in-End.is, c.take_end.ensures.run_after)

pub returns-in-Log-clause-run_after : goal.returns-in-Log-clause-run_after
returns-in-Log-clause-run_after c = rw (c.take_one.ensures.run_after, passed_over (lent c.args.run.now) c.args.e c.in-Log.is)
