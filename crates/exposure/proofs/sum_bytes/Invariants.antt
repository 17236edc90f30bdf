-- `exposure::sum_bytes` meets its contract. The loop's invariant: the sums over the bytes so far, with their bounds. Assumes nothing.
use Rattle.tables.specs.View.{interval_in}
use Rattle.exposure.proofs.Total.{SumsAt}
use Rattle.exposure.proofs.sum_bytes.Given as goal

abbrev pub invariant-loop-b : goal.invariant-loop-b
invariant-loop-b l = SumsAt (interval_in l.stored l.fenced l.opened l.closed) l.b l.epochs l.count
