-- The kinds that are left lead to what all of them do.
use Rattle.std.proofs.Common.{◌+◌, ◌-◌, sym, ap, ◌∙◌, arith}
use Rattle.corpus.specs.Tally.{kinds_from}
use Rattle.corpus.proofs.Counted.{kinds_next, kinds_done}
use Rattle.corpus.proofs.count_kinds.Goals as goal

pub loop-i-preserved : goal.loop-i-preserved
loop-i-preserved c =
    let k = c.args in
    let i = c.loop-i.i in
    let counts = rw c.byte_at-kind.ensures at c.count.ensures in
    ap (kinds_from (i + 1) (k.events - (i + 1)) k.area.now) counts ∙
    sym (kinds_next k.area.now i k.events c.loop-i.kinds (omega arith)) ∙ c.loop-i.invariant

pub returns : goal.returns
returns c = sym (kinds_done c.args.area.now c.loop-i.i c.args.events c.loop-i.kinds (omega arith)) ∙ c.loop-i.invariant
