-- Either buffer has room for the findings.
use Rattle.judge.proofs.Buffer.{short_buffer, long_buffer_lem, judged_into}
use Rattle.judge.proofs.judge_part.Goals as goal

pub returns-then-count-le340 : goal.returns-then-count-le340
returns-then-count-le340 c =
    let k = c.args in
    let e = c.judge_by.ensures in
    let t = judged_into k.count k.lines k.records.now k.area.now (short_buffer k.count c.if-count-le340.true) e.value e.area_after in
    record { value = t.0; area_after = t.1 }

pub returns : goal.returns
returns c =
    let k = c.args in
    let e = c.judge_by-2.ensures in
    let t = judged_into k.count k.lines k.records.now k.area.now (long_buffer_lem k.count c.if-count-le340.false) e.value e.area_after in
    record { value = t.0; area_after = t.1 }
