-- `intervals::close_epochs` meets its contract: the bytes of the window are within the tables.
-- Assumes nothing.
use mathlib.Core.Path.{sym}
use native.Mathlib.Omega.{arith}
use Rattle.tables.proofs.Table.{changed_out}
use Rattle.intervals.proofs.close_epochs.Goals as goal

pub returns-then-closed-eq0 : goal.returns-then-closed-eq0
returns-then-closed-eq0 c = sym (changed_out _ _ _ _ (omega (arith, c.if-closed-eq0.true)))

pub returns : goal.returns
returns c = rw c.lines_of-lines.ensures at c.close_bytes.ensures
