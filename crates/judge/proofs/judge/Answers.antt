-- The trailer and the area are checked in their order, and then the records decide.
use mathlib.Core.Path.{sym, ◌∙◌}
use Rattle.std.proofs.lemmas.Result.{err_from_is_err_and}
use Rattle.verdict.proofs.Order.{refused_trailer, refused_area, records_fit}
use Rattle.verdict.proofs.Outcome.{rejected}
use Rattle.judge.specs.Ends.{buffer_for}
use Rattle.judge.proofs.Buffer.{buffer_room}
use Rattle.judge.proofs.JudgedTrace.{judged_trace}
use Rattle.judge.proofs.judge.Goals as goal

pub returns-in_err-t-clause-value : goal.returns-in_err-t-clause-value
returns-in_err-t-clause-value c =
    let k = c.args in
    let p = err_from_is_err_and c.from_residual.result c.from_residual.ensures.1 in
    rw (p.1, p.2) (rejected k.trace.now k.area.now (refused_trailer k.trace.now k.area.now (sym c.in_err-t.ensures))).0

pub returns-in_err-t-clause-area_after : goal.returns-in_err-t-clause-area_after
returns-in_err-t-clause-area_after c =
    let k = c.args in (rejected k.trace.now k.area.now (refused_trailer k.trace.now k.area.now (sym c.in_err-t.ensures))).1

pub returns-then-area-t-clause-value : goal.returns-then-area-t-clause-value
returns-then-area-t-clause-value c =
    let k = c.args in
    rw c.from.ensures (rejected k.trace.now k.area.now (refused_area k.trace.now k.area.now (sym c.in_ok-t.ensures) c.if-area-t.true)).0

pub returns-then-area-t-clause-area_after : goal.returns-then-area-t-clause-area_after
returns-then-area-t-clause-area_after c =
    let k = c.args in (rejected k.trace.now k.area.now (refused_area k.trace.now k.area.now (sym c.in_ok-t.ensures) c.if-area-t.true)).1

pub judge_part-requires : goal.judge_part-requires
judge_part-requires c =
    let k = c.args in (records_fit k.trace.now k.area.now (sym c.in_ok-t.ensures), c.if-area-t.false)

pub returns-clause-value : goal.returns-clause-value
returns-clause-value c =
    let k = c.args in
    let known = sym c.in_ok-t.ensures in
    let count = c.in_ok-t.t.count in
    let room = buffer_room count (records_fit k.trace.now k.area.now known) in
    c.judge_part.ensures.value ∙ (judged_trace k.trace.now k.area.now known c.if-area-t.false c.part.ensures (buffer_for count) room).0

pub returns-clause-area_after : goal.returns-clause-area_after
returns-clause-area_after c =
    let k = c.args in
    let known = sym c.in_ok-t.ensures in
    let count = c.in_ok-t.t.count in
    let room = buffer_room count (records_fit k.trace.now k.area.now known) in
    c.judge_part.ensures.area_after ∙ (judged_trace k.trace.now k.area.now known c.if-area-t.false c.part.ensures (buffer_for count) room).1
