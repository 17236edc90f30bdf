-- `reports::asking::report` meets its contract: the text has room for every report.
use Rattle.std.proofs.Common.{refl, arith}
use Rattle.text.proofs.Puts.{put_back}
use Rattle.reports.proofs.Interval.{report_whole}
use Rattle.reports.proofs.asking.report.Goals as goal

pub returns : goal.returns
returns c =
    let k = c.args in
    let start = c.new-printed.ensures in
    let text = c.put_report.new.text.bytes.now in
    let put = put_back {bytes = text} start.same_reference start.value c.put_report.ensures (λ same. refl) c.place.ensures in
    let w = report_whole k.input.now k.text.now (omega arith) put in
    record { upper_bound = (w.within, w.counted); text_after = w.report }
