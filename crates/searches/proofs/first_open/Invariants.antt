-- `searches::first_open` meets its contract: the search over what is left is the whole search, one line's part at a time.
-- Assumes nothing.
use mathlib.Core.Path.{◌≡◌}
use Prim.Native.Nat.{◌-◌, ◌≤◌}
use Rattle.searches.specs.Tests.{open_byte}
use Rattle.searches.proofs.FromFront.{left}
use Rattle.searches.proofs.first_open.Given as goal

abbrev pub invariant-loop-b : goal.invariant-loop-b
invariant-loop-b l =
    let p = open_byte l.fence l.tables.stored.now l.tables.fenced.now l.tables.dirtied.now l.tables.backed.now in (l.initial.b ≤ l.b) × (l.b ≤ l.end) × (left p l.end l.b ≡ left p l.end l.initial.b)

abbrev pub decreases-loop-b : goal.decreases-loop-b
decreases-loop-b l = l.end - l.b
