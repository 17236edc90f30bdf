-- `writes::fill` meets its contract: after i turns the first i entries are filled.
-- Assumes nothing.
use mathlib.Core.Path.{◌≡◌}
use Rattle.tables.specs.Table.{filled}
use Rattle.writes.proofs.fill.Given as goal

abbrev pub invariant-loop-i : goal.invariant-loop-i
invariant-loop-i l = l.xs ≡ filled l.x l.at l.i l.initial.xs
