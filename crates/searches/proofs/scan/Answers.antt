-- `searches::scan` meets its contract: the search over what is left is the whole search.
-- Assumes nothing.
use mathlib.Core.Path.{sym}
use native.Mathlib.Omega.{arith}
use Rattle.searches.proofs.FromFront.{found_here, found_later, found_nothing}
use Rattle.searches.proofs.scan.Goals as goal

pub returns-then-passes : goal.returns-then-passes
returns-then-passes g c = found_here _ _ _ _ c.loop-b.invariant (omega arith) (sym c.if-passes.ensures)

pub loop-b-preserved : goal.loop-b-preserved
loop-b-preserved g c = found_later _ _ _ _ c.loop-b.invariant (omega arith) (sym c.if-passes.ensures)

pub returns : goal.returns
returns g c = found_nothing _ _ _ _ c.loop-b.invariant (omega arith)
