-- `intervals::close_bytes` meets its contract: the first b bytes are as after the fence, and those that the table lacks need not be.
-- Assumes nothing.
use mathlib.Core.Path.{◌≡◌}
use Rattle.tables.specs.Table.{changed}
use Rattle.intervals.specs.Now.{closed_now}
use Rattle.intervals.proofs.close_bytes.Given as goal

abbrev pub invariant-loop-b : goal.invariant-loop-b
invariant-loop-b l = l.closed ≡ changed (closed_now l.number l.epoch l.fenced) 0 l.b l.initial.closed
