-- `writes::close_lines` meets its contract: the bytes of the lines before l are as after the fence.
-- Assumes nothing.
use mathlib.Core.Path.{sym, ◌∙◌}
use native.Mathlib.Nat.{sub-zero}
use native.Mathlib.Omega.{arith}
use Rattle.writes.proofs.FenceLines.{lines_none, lines_more, eight_passed}
use Rattle.writes.proofs.close_lines.Goals as goal
use Rattle.writes.proofs.close_lines.Goals.{then-any_of_eight, else-any_of_eight}

pub loop-l-init : goal.loop-l-init
loop-l-init c = let a = c.args in (omega arith, lines_none a.counts.fence a.number a.stored.now a.backed.now 0 a.fenced.now)

pub loop-l-preserved : goal.loop-l-preserved
loop-l-preserved c =
    let k = c.loop-l in
    let a = c.args in (
      omega arith,
      lines_more a.counts.fence a.number a.stored.now a.backed.now 0 k.l _ a.fenced.now (omega arith) (omega arith) k.invariant.1
          (elim c.if-any_of_eight.branch [
            | then-any_of_eight w ↦ w.fenced-is ∙ w.close_some.ensures
            | else-any_of_eight w ↦
                w.fenced-is ∙
                eight_passed a.counts.fence a.number a.stored.now a.backed.now k.l k.fenced (omega arith) (sym w.if-any_of_eight.ensures)
          ]),
    )

pub returns : goal.returns
returns c =
    let k = c.loop-l in
    let a = c.args in
    let end = c.lines_of-end.result in
    rw (sub-zero end, c.lines_of-end.ensures) at
    (lines_more a.counts.fence a.number a.stored.now a.backed.now 0 k.l end a.fenced.now (omega arith) (omega arith) k.invariant.1
    c.close_some-2.ensures)
