-- The check of the ranges and then that of the state are the check of all limits.
use Rattle.std.proofs.Common.{sym, ◌∙◌}
use Rattle.std.proofs.lemmas.Result.{err_from_is_err_and}
use Rattle.limits.proofs.Joined.{range_refused, range_passed}
use Rattle.limits.proofs.check_event.Goals as goal

pub returns-in_err-check_ranges : goal.returns-in_err-check_ranges
returns-in_err-check_ranges c =
    let p = err_from_is_err_and c.from_residual.result c.from_residual.ensures.1 in
    let k = c.args in
    rw (p.1, p.2) (range_refused k.lines k.events k.depth k.e (sym c.in_err-check_ranges.ensures))

pub returns : goal.returns
returns c = let k = c.args in c.check_state.ensures ∙ range_passed k.lines k.events k.depth k.e (sym c.in_ok-check_ranges.ensures)
