-- The check of the limits and the accepted event make up what is followed.
use Rattle.std.proofs.Common.{sym}
use Rattle.std.proofs.lemmas.Result.{err_from_is_err_and}
use Rattle.events.proofs.Steps.{follow_by_check}
use Rattle.tables.specs.Lent.{lent}
use Rattle.events.proofs.follow.Goals as goal

pub returns-in_err-check_event-clause-answer : goal.returns-in_err-check_event-clause-answer
returns-in_err-check_event-clause-answer c =
    let p = err_from_is_err_and c.from_residual.result c.from_residual.ensures.1 in
    let refused = sym (rw c.lines_of-lines.ensures at c.in_err-check_event.ensures) in
    rw (p.1, p.2, follow_by_check (lent c.args.run.now) c.args.r refused)

pub returns-in_err-check_event-clause-run_after : goal.returns-in_err-check_event-clause-run_after
returns-in_err-check_event-clause-run_after c =
    let refused = sym (rw c.lines_of-lines.ensures at c.in_err-check_event.ensures) in
    rw (follow_by_check (lent c.args.run.now) c.args.r refused)

pub returns-clause-answer : goal.returns-clause-answer
returns-clause-answer c =
    let taken = sym (rw c.lines_of-lines.ensures at c.in_ok-check_event.ensures) in
    rw (follow_by_check (lent c.args.run.now) c.args.r taken)

pub returns-clause-run_after : goal.returns-clause-run_after
returns-clause-run_after c =
    let taken = sym (rw c.lines_of-lines.ensures at c.in_ok-check_event.ensures) in
    rw (c.follow_accepted.ensures.run_after, follow_by_check (lent c.args.run.now) c.args.r taken)
