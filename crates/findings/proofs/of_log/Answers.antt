-- `findings::of_log` meets its contract: the finding is at the byte that the search found.
use mathlib.Core.Path.{refl}
use Rattle.history.specs.Found.{finding_by}
use Rattle.searches.proofs.Searched.{found_none, found_some}
use Rattle.findings.proofs.of_log.Goals as goal

pub returns-in-None : goal.returns-in-None
unfolding finding_by
returns-in-None c = rw (found_none _ refl c.in-None.ensures)

pub returns-in-Some : goal.returns-in-Some
unfolding finding_by
returns-in-Some c = rw (found_some _ refl c.in-Some.ensures)
