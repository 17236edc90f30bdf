-- Kind by kind: the limits keep the numbers and the ranges within the tables.
use Rattle.std.proofs.Common.{[], ap}
use Rattle.ranges.specs.Ranges.{ranges_of}
use Rattle.limits.proofs.Passed.{begin_below, end_inside}
use Rattle.tables.specs.View.{lines_of}
use Rattle.events.proofs.Passed.{second_range}
use Rattle.events.proofs.Taken.{room, one_range, taken}
use Rattle.events.proofs.accept.Goals as goal

pub store-requires : goal.store-requires
store-requires c = one_range c.args.run.now.counts.now c.args.e c.requires _ [] (ap ranges_of c.in-Store.is)

pub write_back-requires : goal.write_back-requires
write_back-requires c = one_range c.args.run.now.counts.now c.args.e c.requires _ [] (ap ranges_of c.in-WriteBack.is)

pub fence-requires : goal.fence-requires
fence-requires c = room c.args.run.now.counts.now c.args.e c.requires

pub begin-requires : goal.begin-requires
begin-requires c =
    let k = c.args.run.now.counts.now in
    (room k c.args.e c.requires, begin_below (lines_of k) k.events k.depth (taken k c.args.e c.requires c.in-Begin.is))

pub log-requires : goal.log-requires
log-requires c = one_range c.args.run.now.counts.now c.args.e c.requires _ [] (ap ranges_of c.in-Log.is)

pub end-requires : goal.end-requires
end-requires c =
    let k = c.args.run.now.counts.now in
    (room k c.args.e c.requires, end_inside (lines_of k) k.events k.depth (taken k c.args.e c.requires c.in-End.is))

pub persisted-requires : goal.persisted-requires
persisted-requires c = one_range c.args.run.now.counts.now c.args.e c.requires _ [] (ap ranges_of c.in-Persisted.is)

pub ordered-requires : goal.ordered-requires
ordered-requires c =
    let k = c.args.run.now.counts.now in
    let two = ap ranges_of c.in-Ordered.is in
    let one = one_range k c.args.e c.requires _ _ two in
    (one.0, one.1, second_range k c.args.e _ _ two c.requires)
