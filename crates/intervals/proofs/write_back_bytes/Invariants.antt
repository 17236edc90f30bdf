-- `intervals::write_back_bytes` meets its contract: after i turns the first i bytes are as after the write-back, and those that the table
-- lacks need not be.
-- Assumes nothing.
use mathlib.Core.Path.{◌≡◌}
use Rattle.tables.specs.Table.{changed}
use Rattle.intervals.specs.Now.{backed_now}
use Rattle.intervals.proofs.write_back_bytes.Given as goal

abbrev pub invariant-loop-i : goal.invariant-loop-i
invariant-loop-i l = l.written ≡ changed (backed_now l.number l.stored) l.at l.i l.initial.written
