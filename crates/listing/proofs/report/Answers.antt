-- The text has room for every report.
use Rattle.std.proofs.Common.{refl, arith}
use Rattle.text.proofs.Puts.{put_back}
use Rattle.listing.proofs.Size.{report_whole}
use Rattle.listing.proofs.report.Goals as goal

pub returns : goal.returns
returns c =
    let k = c.args in
    let r = c.put_report.ensures in
    let start = c.new-printed.ensures in
    let text = c.put_report.new.text.bytes.now in
    let put = put_back {bytes = text} start.same_reference start.value r.text_after (λ same. refl) c.place.ensures in
    let w = report_whole k.trace.now k.area.now k.text.now (omega arith) put in
    record {
      area_after = r.area_after;
      upper_bound = (w.within, w.counted);
      text_after = w.report;
      text_unchanged = w.beyond;
    }
