-- `intervals::open_bytes` meets its contract: after i turns the first i entries are filled, and those that the table lacks need not be.
-- Assumes nothing.
use mathlib.Core.Path.{◌≡◌, refl}
use native.Mathlib.Omega.{arith}
use Rattle.tables.specs.Table.{changed}
use Rattle.tables.proofs.Table.{changed_turn, changed_room}
use Rattle.intervals.proofs.open_bytes.Goals as goal

pub loop-i-init : goal.loop-i-init
unfolding changed
loop-i-init c = refl

pub loop-i-preserved : goal.loop-i-preserved
loop-i-preserved c = changed_turn _ _ _ _ c.loop-i.invariant refl

pub returns : goal.returns
returns c =
    let k = c.loop-i in
    let last : k.i ≡ c.room-n.result = omega arith in
    changed_room _ _ _ _ c.room-n.ensures (rw last at k.invariant)
