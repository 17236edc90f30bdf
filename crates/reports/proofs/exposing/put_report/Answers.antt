-- `reports::exposing::put_report` meets its contract: what `trace_exposure::exposure` answers decides between the refusal and the mean.
use Rattle.reports.proofs.Exposure.{refusal_put, mean_put}
use Rattle.reports.proofs.exposing.put_report.Goals as goal

pub returns-in-Err : goal.returns-in-Err
returns-in-Err c =
    let k = c.args in
    refusal_put k.trace.now c.exposure.ensures c.in-Err.is c.number.ensures c.refusal.ensures

pub returns-in-Ok : goal.returns-in-Ok
returns-in-Ok c =
    let k = c.args in
    mean_put k.trace.now c.exposure.ensures c.in-Ok.is c.put_mean.ensures
