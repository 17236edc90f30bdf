-- The lines are put one after another.
use Rattle.text.proofs.Puts.{◌then◌}
use Rattle.interval_lines.proofs.put_sites.Goals as goal

pub returns : goal.returns
returns c = c.put_site.ensures then c.put_site-2.ensures then c.put_site-3.ensures
