-- `judge::judge_by` meets its contract: the run that it lends is that of a fresh window, without the tables that no finding goes by.
use mathlib.Core.Path.{refl, ◌∙◌}
use native.Mathlib.Omega.{arith}
use Rattle.std.proofs.lemmas.Result.{err_from_is_err_and}
use Prim.Native.Nat.{◌*◌}
use Rattle.codec.specs.Codec.{finding_size}
use Rattle.pass.specs.Pass.{all_judged}
use Rattle.pass.proofs.Fresh.{same_bare}
use Rattle.judge.proofs.Ends.{ends_refused, ends_passed, ends_buffer, ends_put}
use Rattle.judge.proofs.judge_by.Goals as goal

pub returns-in_err-give_records-clause-value : goal.returns-in_err-give_records-clause-value
returns-in_err-give_records-clause-value c =
    let k = c.args in
    let p = err_from_is_err_and c.from_residual.result c.from_residual.ensures.1 in
    let e = all_judged k.count k.lines k.records.now k.buffer.now in
    let same = same_bare k.count k.lines k.records.now k.buffer.now (c.run.view_is ∙ c.fresh-run.ensures) in
    rw (p.1, p.2) (ends_refused (finding_size * k.count) k.area.now e same c.in_err-give_records.ensures.check_value).0

pub returns-in_err-give_records-clause-buffer_after : goal.returns-in_err-give_records-clause-buffer_after
returns-in_err-give_records-clause-buffer_after c =
    let k = c.args in
    ends_buffer (all_judged k.count k.lines k.records.now k.buffer.now) (same_bare k.count k.lines k.records.now k.buffer.now (c.run.view_is ∙ c.fresh-run.ensures)) c.give_records.ensures.buffer_after

pub returns-in_err-give_records-clause-area_after : goal.returns-in_err-give_records-clause-area_after
returns-in_err-give_records-clause-area_after c =
    let k = c.args in
    let e = all_judged k.count k.lines k.records.now k.buffer.now in
    let same = same_bare k.count k.lines k.records.now k.buffer.now (c.run.view_is ∙ c.fresh-run.ensures) in
    (ends_refused (finding_size * k.count) k.area.now e same c.in_err-give_records.ensures.check_value).1

pub returns-clause-value : goal.returns-clause-value
returns-clause-value c =
    let k = c.args in
    let e = all_judged k.count k.lines k.records.now k.buffer.now in
    let same = same_bare k.count k.lines k.records.now k.buffer.now (c.run.view_is ∙ c.fresh-run.ensures) in
    let check = c.in_ok-give_records.ensures.check_value in
    let held = c.give_records.ensures.buffer_after in
    (ends_passed (finding_size * k.count) k.area.now e same check held refl).0

pub returns-clause-buffer_after : goal.returns-clause-buffer_after
returns-clause-buffer_after c =
    let k = c.args in
    ends_buffer (all_judged k.count k.lines k.records.now k.buffer.now) (same_bare k.count k.lines k.records.now k.buffer.now (c.run.view_is ∙ c.fresh-run.ensures)) c.give_records.ensures.buffer_after

pub returns-clause-area_after : goal.returns-clause-area_after
returns-clause-area_after c =
    let k = c.args in
    let e = all_judged k.count k.lines k.records.now k.buffer.now in
    let same = same_bare k.count k.lines k.records.now k.buffer.now (c.run.view_is ∙ c.fresh-run.ensures) in
    let check = c.in_ok-give_records.ensures.check_value in
    let held = c.give_records.ensures.buffer_after in
    let size = finding_size * k.count in
    c.put.ensures ∙ ends_put size _ k.area.now (omega arith) (omega arith) ∙ (ends_passed size k.area.now e same check held refl).1
