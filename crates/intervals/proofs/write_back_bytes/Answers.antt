-- `intervals::write_back_bytes` meets its contract: after i turns the first i bytes are as after the write-back, and those that the table
-- lacks need not be.
-- Assumes nothing.
use mathlib.Core.Path.{◌≡◌, refl}
use native.Mathlib.Omega.{arith}
use Rattle.tables.specs.Table.{changed}
use Rattle.tables.proofs.Table.{changed_turn, changed_room}
use Rattle.intervals.proofs.write_back_bytes.Goals as goal

pub loop-i-init : goal.loop-i-init
unfolding changed
loop-i-init c = refl

pub loop-i-preserved : goal.loop-i-preserved
loop-i-preserved c = changed_turn _ _ _ _ c.loop-i.invariant c.back_now.ensures

pub returns : goal.returns
returns c =
    let k = c.loop-i in
    let last : k.i ≡ c.room-m.result = omega arith in
    changed_room _ _ _ _ c.room-m.ensures (rw last at k.invariant)
