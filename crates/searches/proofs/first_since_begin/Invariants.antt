-- `searches::first_since_begin` meets its contract: the search over the lines that are left is the whole search.
-- Assumes nothing.
use mathlib.Core.Path.{◌≡◌}
use Prim.Native.Nat.{◌+◌, ◌*◌}
use Rattle.window.specs.Window.{window_bytes}
use Rattle.searches.specs.Tests.{lost_at_end}
use Rattle.searches.proofs.FromFront.{left}
use Rattle.searches.proofs.first_since_begin.Given as goal

abbrev pub invariant-loop-l : goal.invariant-loop-l
invariant-loop-l l =
    let p = lost_at_end l.begin l.fence l.tables.stored.now l.tables.fenced.now l.tables.dirtied.now l.tables.backed.now in left p (0 + window_bytes l.lines) (l.l * 64) ≡ left p (0 + window_bytes l.lines) 0
