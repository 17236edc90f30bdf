-- The records that are left lead to where all of them lead: one that is refused ends them, one that is not leads on, and where none is
-- left the closing follows.
use Rattle.std.proofs.Common.{rules, ap, ◌∙◌, arith}
use Rattle.pass.specs.Pass.{Passed}
use Rattle.pass.proofs.RecordsLeft.{refused_here, next_judged, closed_here, all_left}
use Rattle.pass.proofs.give_records.Goals as goal

pub returns-in-Err-clause-check_value : goal.returns-in-Err-clause-check_value
returns-in-Err-clause-check_value c =
    let k = c.args in
    let s = c.judge_record.ensures in
    let here = refused_here k.records.now k.count c.loop-i.i _ (omega arith) c.record_at-p.ensures s.answer_value s.buffer_after c.in-Err.is in
    ap (λ (e : Passed). e.check) (here ∙ c.loop-i.invariant.0 ∙ all_left k.records.now k.count _)

pub returns-in-Err-clause-buffer_after : goal.returns-in-Err-clause-buffer_after
returns-in-Err-clause-buffer_after c =
    let k = c.args in
    let s = c.judge_record.ensures in
    let here = refused_here k.records.now k.count c.loop-i.i _ (omega arith) c.record_at-p.ensures s.answer_value s.buffer_after c.in-Err.is in
    ap (λ (e : Passed). e.stage) (here ∙ c.loop-i.invariant.0 ∙ all_left k.records.now k.count _)

pub loop-i-preserved : goal.loop-i-preserved
loop-i-preserved c =
    let k = c.args in
    let s = c.judge_record.ensures in
    (next_judged k.records.now k.count c.loop-i.i _ (omega arith) c.record_at-p.ensures s.answer_value s.buffer_after c.in_default.is ∙ c.loop-i.invariant.0, search rules)

pub returns-clause-check_value : goal.returns-clause-check_value
returns-clause-check_value c =
    let k = c.args in
    let all = closed_here k.records.now k.count c.loop-i.i _ _ (omega arith) c.loop-i.invariant.0 in
    c.close.ensures ∙ ap (λ (e : Passed). e.check) all

pub returns-clause-buffer_after : goal.returns-clause-buffer_after
returns-clause-buffer_after c =
    let k = c.args in
    ap (λ (e : Passed). e.stage) (closed_here k.records.now k.count c.loop-i.i _ _ (omega arith) c.loop-i.invariant.0)
