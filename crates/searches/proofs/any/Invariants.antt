-- `searches::any` meets its contract: after i turns it has found what is among the first i.
-- Assumes nothing.
use mathlib.Core.Path.{◌≡◌}
use Rattle.history.specs.Found.{lowest}
use Rattle.searches.specs.Tests.{is_found}
use Rattle.searches.proofs.any.Given as goal

abbrev pub invariant-loop-i : goal.invariant-loop-i
invariant-loop-i g l = l.found ≡ is_found (lowest (g.P.Places.passing l.places) l.at l.i)
