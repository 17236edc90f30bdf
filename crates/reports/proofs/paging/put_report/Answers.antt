-- `reports::paging::put_report` meets its contract: what `pages::pages` answers decides between the refusal and the pages.
use Rattle.std.proofs.Common.{rules}
use Rattle.text.proofs.Puts.{put_back}
use Rattle.reports.proofs.Pages.{refusal_put, pages_put}
use Rattle.reports.proofs.paging.put_report.Goals as goal

pub returns-in-Err : goal.returns-in-Err
returns-in-Err c =
    let k = c.args in
    refusal_put k.area.now k.text.now c.pages.ensures.value c.in-Err.is c.number.ensures c.pages.ensures.area_after
    (put_back c.new-printed.ensures.same_reference c.new-printed.ensures.value c.refusal.ensures (search rules) c.place.ensures)

pub returns-in-Ok : goal.returns-in-Ok
returns-in-Ok c =
    let k = c.args in
    pages_put k.area.now k.text.now c.pages.ensures.value c.in-Ok.is c.pages.ensures.area_after
