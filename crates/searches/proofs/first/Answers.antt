-- `searches::first` meets its contract: the search from the place after the skip is the whole search.
-- Assumes nothing.
use mathlib.Core.Path.{◌∙◌, ap}
use native.Mathlib.Omega.{arith}
use Rattle.searches.specs.Tests.{searched}
use Rattle.searches.proofs.Parts.{skip_inside, skip_same}
use Rattle.searches.proofs.first.Goals as goal

pub overflow_sub-at : goal.overflow_sub-at
overflow_sub-at g c = omega (arith, skip_inside _ _ _ c.skip-b.ensures)

pub scan-requires : goal.scan-requires
scan-requires g c = omega (arith, skip_inside _ _ _ c.skip-b.ensures)

pub returns : goal.returns
returns g c = c.scan.ensures ∙ ap searched (skip_same _ _ _ c.skip-b.ensures)
