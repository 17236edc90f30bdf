-- `intervals::close_bytes` meets its contract: the first b bytes are as after the fence, and those that the table lacks need not be.
-- Assumes nothing.
use mathlib.Core.Path.{◌≡◌, refl}
use Prim.Native.Nat.{◌+◌, ◌-◌, min}
use native.Mathlib.Nat.{zero-add}
use native.Mathlib.Omega.{arith}
use lib.ListN.{length, get_or}
use Rattle.tables.specs.Table.{changed}
use Rattle.tables.proofs.Table.{changed_turn, changed_room}
use Rattle.intervals.specs.Now.{closed_now}
use Rattle.intervals.proofs.close_bytes.Goals as goal

pub loop-b-init : goal.loop-b-init
unfolding changed
loop-b-init c = refl

pub loop-b-preserved : goal.loop-b-preserved
loop-b-preserved c =
    let k = c.loop-b in
    let a = c.args in
    let made : c.epoch_now.result ≡ closed_now a.number a.epoch a.fenced.now (0 + k.b) (get_or k.closed (0 + k.b) 0) = rw zero-add c.epoch_now.ensures in
    rw zero-add at (changed_turn _ 0 _ k.b k.invariant made)

pub returns : goal.returns
returns c =
    let last : c.loop-b.b ≡ min c.args.n (length c.args.closed.now - 0) = omega arith in
    changed_room _ 0 c.args.n _ last c.loop-b.invariant
