-- What the check answers decides between leaving the page area and writing the pages.
use Rattle.pages.proofs.Whole.{area_kept, area_written_lem}
use Rattle.pages.proofs.pages.Goals as goal

pub returns-in_err-length-clause-area_after : goal.returns-in_err-length-clause-area_after
returns-in_err-length-clause-area_after c =
    let k = c.args in
    area_kept k.findings.now k.area.now c.checked.ensures c.in_err-length.was

pub returns-clause-area_after : goal.returns-clause-area_after
returns-clause-area_after c =
    let k = c.args in
    area_written_lem k.findings.now k.area.now c.checked.ensures c.in_ok-length.was
    c.findings_in-count.ensures c.count_shown-shown.ensures c.page_count.ensures c.put_pages.ensures
