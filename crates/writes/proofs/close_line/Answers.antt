-- `writes::close_line` meets its contract: after i turns the first i bytes of the line are as after the fence.
-- Assumes nothing.
use mathlib.Core.Path.{refl}
use Rattle.tables.specs.Table.{changed}
use Rattle.tables.proofs.Table.{changed_turn}
use Rattle.writes.proofs.close_line.Goals as goal

pub loop-i-init : goal.loop-i-init
unfolding changed
loop-i-init c = refl

pub loop-i-preserved : goal.loop-i-preserved
loop-i-preserved c = changed_turn _ _ _ _ c.loop-i.invariant c.fence_now.ensures
