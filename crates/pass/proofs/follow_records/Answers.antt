-- The records that are left lead to where all of them lead: one that is refused ends them, one that is not leads on, and where none is
-- left the closing follows.
use Rattle.std.proofs.Common.{rules, ap, ◌∙◌, arith}
use Rattle.pass.specs.Follow.{Ended}
use Rattle.pass.proofs.FollowedLeft.{refused_there, next_left, closed_there, all_followed}
use Rattle.pass.proofs.follow_records.Goals as goal

pub returns-in-Err-clause-check_value : goal.returns-in-Err-clause-check_value
returns-in-Err-clause-check_value c =
    let k = c.args in
    let s = c.follow_record.ensures in
    let there = refused_there k.records.now k.count c.loop-i.i _ (omega arith) c.record_at-p.ensures s.answer s.run_after c.in-Err.is in
    ap (λ (e : Ended). e.check) (there ∙ c.loop-i.invariant.0 ∙ all_followed k.records.now k.count _)

pub returns-in-Err-clause-run_after : goal.returns-in-Err-clause-run_after
returns-in-Err-clause-run_after c =
    let k = c.args in
    let s = c.follow_record.ensures in
    let there = refused_there k.records.now k.count c.loop-i.i _ (omega arith) c.record_at-p.ensures s.answer s.run_after c.in-Err.is in
    ap (λ (e : Ended). e.run) (there ∙ c.loop-i.invariant.0 ∙ all_followed k.records.now k.count _)

pub loop-i-preserved : goal.loop-i-preserved
loop-i-preserved c =
    let k = c.args in
    let s = c.follow_record.ensures in
    (next_left k.records.now k.count c.loop-i.i _ (omega arith) c.record_at-p.ensures s.answer s.run_after c.in_default.is ∙ c.loop-i.invariant.0, search rules)

pub returns-clause-check_value : goal.returns-clause-check_value
returns-clause-check_value c =
    let k = c.args in
    let all = closed_there k.records.now k.count c.loop-i.i _ _ (omega arith) c.loop-i.invariant.0 in
    c.close.ensures ∙ ap (λ (e : Ended). e.check) all

pub returns-clause-run_after : goal.returns-clause-run_after
returns-clause-run_after c =
    let k = c.args in
    ap (λ (e : Ended). e.run) (closed_there k.records.now k.count c.loop-i.i _ _ (omega arith) c.loop-i.invariant.0)
