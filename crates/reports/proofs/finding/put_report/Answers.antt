-- `reports::finding::put_report` meets its contract: what the judge answers decides between the refusal and the findings.
use Rattle.std.proofs.Common.{refl, sym, rules}
use Rattle.text.proofs.Puts.{put_back}
use Rattle.reports.proofs.Findings.{refusal_put, findings_put_lem}
use Rattle.reports.proofs.finding.put_report.Goals as goal

pub returns-in-Err : goal.returns-in-Err
returns-in-Err c =
    let k = c.args in
    refusal_put k.trace.now k.area.now (sym c.in-Err.ensures.value) c.number.ensures c.judge.ensures.area_after
    (put_back c.new-text.ensures.same_reference c.new-text.ensures.value c.refusal.ensures (search rules) c.place.ensures)

pub returns-in-Ok : goal.returns-in-Ok
returns-in-Ok c =
    let k = c.args in
    findings_put_lem k.trace.now k.area.now (sym c.in-Ok.ensures.value) c.judge.ensures.area_after c.judge.auto.area refl
