-- `searches::any` meets its contract: after i turns it has found what is among the first i.
-- Assumes nothing.
use mathlib.Core.Path.{refl}
use Rattle.history.specs.Found.{lowest}
use Rattle.searches.proofs.Parts.{found_more}
use Rattle.searches.proofs.any.Goals as goal

pub loop-i-init : goal.loop-i-init
unfolding lowest
loop-i-init g c = refl

pub loop-i-preserved : goal.loop-i-preserved
loop-i-preserved g c = found_more _ _ _ c.loop-i.invariant c.passes-found.ensures
