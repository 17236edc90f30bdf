-- The parts are put one after another.
use Rattle.text.proofs.Puts.{◌then◌}
use Rattle.page_layout.specs.Pages.{page}
use Rattle.page_layout.proofs.put_page.Goals as goal

pub returns-clause-lines : goal.returns-clause-lines
unfolding page
returns-clause-lines c = c.heading.ensures then c.put_rows.ensures.lines then c.foot.ensures
