-- `trace_interval::interval` meets its contract: the trailer decides, and then the records.
use mathlib.Core.Path.{sym, ◌∙◌}
use Rattle.std.proofs.lemmas.Result.{err_from_is_err_and}
use Rattle.trace_interval.proofs.Trace.{refused_trailer, trace_interval}
use Rattle.trace_interval.proofs.interval.Goals as goal

pub returns-in_err-t : goal.returns-in_err-t
returns-in_err-t c =
    let p = err_from_is_err_and c.from_residual.result c.from_residual.ensures.1 in
    rw (p.1, p.2) (refused_trailer c.args.trace.now c.args.byte (sym c.in_err-t.ensures))

pub returns : goal.returns
returns c =
    c.records_interval.ensures ∙ trace_interval c.args.trace.now c.args.byte (sym c.in_ok-t.ensures) c.part.ensures
