-- `writes::fill` meets its contract: after i turns the first i entries are filled.
-- Assumes nothing.
use mathlib.Core.Path.{refl}
use Rattle.tables.specs.Table.{changed}
use Rattle.tables.proofs.Table.{changed_turn}
use Rattle.writes.proofs.fill.Goals as goal

pub loop-i-init : goal.loop-i-init
unfolding changed
loop-i-init c = refl

pub loop-i-preserved : goal.loop-i-preserved
loop-i-preserved c = changed_turn _ _ _ _ c.loop-i.invariant refl
