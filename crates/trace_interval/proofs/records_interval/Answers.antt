-- `trace_interval::records_interval` meets its contract: the run that it lends is that of a fresh window.
use mathlib.Core.Path.{◌∙◌}
use mathlib.Core.List.{[]}
use Rattle.std.proofs.lemmas.Result.{err_from_is_err_and}
use Rattle.trace.specs.Records.{records_of}
use Rattle.pass.specs.Pass.{all_judged}
use Rattle.pass.proofs.Fresh.{same_followed}
use Rattle.trace_interval.proofs.Ends.{ends_refused, ends_passed}
use Rattle.trace_interval.proofs.records_interval.Goals as goal

pub returns-in_err-follow_records : goal.returns-in_err-follow_records
returns-in_err-follow_records c =
    let k = c.args in
    let p = err_from_is_err_and c.from_residual.result c.from_residual.ensures.1 in
    let all = all_judged k.count k.lines k.records.now [] in
    let same = same_followed k.count k.lines k.records.now [] (c.run.view_is ∙ c.fresh-run.ensures) in
    rw (p.1, p.2) (ends_refused (records_of k.count k.records.now) k.byte all same c.in_err-follow_records.ensures.check_value)

pub returns-in_err-interval : goal.returns-in_err-interval
returns-in_err-interval c =
    let k = c.args in
    let f = c.from_residual-in_err-interval in
    let p = err_from_is_err_and f.result f.ensures.1 in
    let all = all_judged k.count k.lines k.records.now [] in
    let same = same_followed k.count k.lines k.records.now [] (c.run.view_is ∙ c.fresh-run.ensures) in
    let check = c.in_ok-follow_records.ensures.check_value in
    rw (p.1, p.2) (ends_passed (records_of k.count k.records.now) k.byte all same check c.follow_records.ensures.run_after c.in_err-interval.ensures)

pub returns : goal.returns
returns c =
    let k = c.args in
    let all = all_judged k.count k.lines k.records.now [] in
    let same = same_followed k.count k.lines k.records.now [] (c.run.view_is ∙ c.fresh-run.ensures) in
    let check = c.in_ok-follow_records.ensures.check_value in
    rw c.sites_of.ensures
    (ends_passed (records_of k.count k.records.now) k.byte all same check c.follow_records.ensures.run_after c.in_ok-interval.ensures)
