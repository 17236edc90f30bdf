-- `intervals::open_bytes` meets its contract: after i turns the first i entries are filled, and those that the table lacks need not be.
-- Assumes nothing.
use mathlib.Core.Path.{◌≡◌}
use Rattle.tables.specs.Table.{filled}
use Rattle.intervals.proofs.open_bytes.Given as goal

abbrev pub invariant-loop-i : goal.invariant-loop-i
invariant-loop-i l = l.opened ≡ filled l.epoch l.at l.i l.initial.opened
