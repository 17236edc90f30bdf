-- `findings::lost_at` meets its contract: it names the byte that the search found, which is within the tables.
use mathlib.Core.Path.{ap}
use Rattle.searches.specs.Tests.{found_by}
use Rattle.findings.proofs.lost_at.Goals as goal

pub bounds-stored-i : goal.bounds-stored-i
bounds-stored-i c = c.requires _ (ap found_by c.in-Some.is)
