-- `intervals::write_back` meets its contract: the lines of the part are within the table.
-- Assumes nothing.
use mathlib.Core.Path.{sym}
use native.Mathlib.Omega.{arith}
use Rattle.tables.proofs.Table.{changed_out}
use Rattle.intervals.proofs.write_back.Goals as goal

pub returns-then-written-eq0 : goal.returns-then-written-eq0
returns-then-written-eq0 c = sym (changed_out _ _ _ _ (omega (arith, c.if-written-eq0.true)))
