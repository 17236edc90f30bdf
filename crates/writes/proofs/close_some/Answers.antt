-- `writes::close_some` meets its contract: the bytes of the lines before l are as after the fence.
-- Assumes nothing.
use mathlib.Core.Path.{◌≡◌, ◌∙◌}
use Prim.Native.Nat.{◌<◌}
use native.Mathlib.Omega.{arith}
use Rattle.writes.proofs.FenceLines.{lines_none, lines_more, line_passed, line_closed}
use Rattle.writes.proofs.close_some.Goals as goal
use Rattle.writes.proofs.close_some.Goals.{then-fence-back, else-fence-back}

pub loop-l-init : goal.loop-l-init
loop-l-init c = let a = c.args in lines_none a.fence a.number a.stored.now a.backed.now a.from a.fenced.now

pub loop-l-preserved : goal.loop-l-preserved
loop-l-preserved c =
    let k = c.loop-l in
    let a = c.args in
    let low : k.l < 64 = omega arith in
    lines_more a.fence a.number a.stored.now a.backed.now a.from k.l _ a.fenced.now k.auto.l (omega arith) k.invariant
    (elim c.if-fence-back.branch [
      | then-fence-back w ↦
          w.fenced-is ∙
          line_closed a.fence a.number a.stored.now a.backed.now k.l k.fenced w.if-fence-back.true low w.line_start-at.ensures w.close_line.ensures
      | else-fence-back w ↦ w.fenced-is ∙ line_passed a.fence a.number a.stored.now a.backed.now k.l k.fenced w.if-fence-back.false
    ])

pub returns : goal.returns
returns c =
    let k = c.loop-l in
    let last : k.l ≡ c.args.to = omega arith in
    rw last at k.invariant
