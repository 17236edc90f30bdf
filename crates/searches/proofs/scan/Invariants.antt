-- `searches::scan` meets its contract: the search over what is left is the whole search.
-- Assumes nothing.
use mathlib.Core.Path.{◌≡◌}
use Prim.Native.Nat.{◌+◌}
use Rattle.searches.proofs.FromFront.{left}
use Rattle.searches.proofs.scan.Given as goal

abbrev pub invariant-loop-b : goal.invariant-loop-b
invariant-loop-b g l = let p = g.P.Places.passing l.places in left p (l.at + l.n) l.b ≡ left p (l.at + l.n) l.at
