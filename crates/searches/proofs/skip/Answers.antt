-- `searches::skip` meets its contract: what is left to skip leads to the same place as the whole.
-- Assumes nothing.
use mathlib.Core.Path.{sym}
use native.Mathlib.Omega.{arith}
use Rattle.searches.proofs.Parts.{skip_here, skip_next, skip_end}
use Rattle.searches.proofs.skip.Goals as goal

pub returns-then-any : goal.returns-then-any
returns-then-any g c = skip_here _ _ _ _ c.loop-b.invariant.2 (omega arith) (sym c.if-any.ensures)

pub loop-b-preserved : goal.loop-b-preserved
loop-b-preserved g c = (omega arith, omega arith, skip_next _ _ _ _ c.loop-b.invariant.2 (omega arith) (sym c.if-any.ensures))

pub returns : goal.returns
returns g c = skip_end _ _ _ _ c.loop-b.invariant.2 (omega arith)
