-- `trace_exposure::records_exposure` meets its contract: the run that it lends is that of a fresh window, without the first write-backs.
use Rattle.std.proofs.Common.{◌∙◌}
use mathlib.Core.List.{[]}
use Rattle.std.proofs.lemmas.Result.{err_from_is_err_and}
use Rattle.pass.specs.Pass.{all_judged}
use Rattle.pass.proofs.Fresh.{same_followed_bare}
use Rattle.trace_exposure.proofs.Ends.{ends_refused, ends_passed}
use Rattle.trace_exposure.proofs.records_exposure.Goals as goal

pub returns-in_err-follow_records : goal.returns-in_err-follow_records
returns-in_err-follow_records c =
    let k = c.args in
    let p = err_from_is_err_and c.from_residual.result c.from_residual.ensures.1 in
    let same = same_followed_bare k.count k.lines k.records.now [] (c.run.view_is ∙ c.fresh-run.ensures) in
    rw (p.1, p.2) (ends_refused (all_judged k.count k.lines k.records.now []) same c.in_err-follow_records.ensures.check_value)

pub returns-in_err-mean : goal.returns-in_err-mean
returns-in_err-mean c =
    let k = c.args in
    let f = c.from_residual-in_err-mean in
    let p = err_from_is_err_and f.result f.ensures.1 in
    let same = same_followed_bare k.count k.lines k.records.now [] (c.run.view_is ∙ c.fresh-run.ensures) in
    let held = c.follow_records.ensures.run_after in
    rw (p.1, p.2) (ends_passed (all_judged k.count k.lines k.records.now []) same c.in_ok-follow_records.ensures.check_value held c.in_err-mean.ensures)

pub returns : goal.returns
returns c =
    let k = c.args in
    let same = same_followed_bare k.count k.lines k.records.now [] (c.run.view_is ∙ c.fresh-run.ensures) in
    let held = c.follow_records.ensures.run_after in
    ends_passed (all_judged k.count k.lines k.records.now []) same c.in_ok-follow_records.ensures.check_value held c.in_ok-mean.ensures
