-- `searches::skip` meets its contract: what is left to skip leads to the same place as the whole.
-- Assumes nothing.
use mathlib.Core.Path.{◌≡◌}
use Prim.Native.Nat.{◌≤◌, ◌-◌}
use Rattle.searches.proofs.Parts.{left_skip}
use Rattle.searches.proofs.skip.Given as goal

abbrev pub invariant-loop-b : goal.invariant-loop-b
invariant-loop-b g l = let p = g.P.Places.passing l.places in (l.at ≤ l.b) × (l.b ≤ l.end) × (left_skip p l.end l.b ≡ left_skip p l.end l.at)

abbrev pub decreases-loop-b : goal.decreases-loop-b
decreases-loop-b g l = l.end - l.b
