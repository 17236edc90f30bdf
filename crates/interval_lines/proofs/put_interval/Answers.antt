-- The line of the epochs and events comes first, and then those of the sites.
use Rattle.text.proofs.Puts.{◌then◌}
use Rattle.interval_lines.proofs.put_interval.Goals as goal

pub returns-in-Open : goal.returns-in-Open
returns-in-Open c = rw c.in-Open.is (c.put_open.ensures then c.put_sites.ensures)

pub returns-in-Closed : goal.returns-in-Closed
returns-in-Closed c = rw c.in-Closed.is (c.put_closed.ensures then c.put_sites-in-Closed.ensures)
