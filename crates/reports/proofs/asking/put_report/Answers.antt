-- `reports::asking::put_report` meets its contract: what `trace_interval::interval` answers decides between the refusal and the interval.
use Rattle.reports.proofs.Interval.{refusal_put, known_put}
use Rattle.reports.proofs.asking.put_report.Goals as goal

pub returns-in-Err : goal.returns-in-Err
returns-in-Err c =
    let k = c.args in
    refusal_put k.input.now c.u16_at-byte.ensures c.trace_in.ensures c.interval.ensures c.in-Err.is
    c.number.ensures c.refusal.ensures

pub returns-in-Ok : goal.returns-in-Ok
returns-in-Ok c =
    let k = c.args in
    known_put k.input.now c.u16_at-byte.ensures c.trace_in.ensures c.interval.ensures c.in-Ok.is
    c.put_known.ensures
