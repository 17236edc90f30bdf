-- `writes::close_lines` meets its contract: the bytes of the lines before l are as after the fence.
-- Assumes nothing.
use mathlib.Core.Path.{◌≡◌}
use Prim.Native.Nat.{◌≤◌, ◌-◌}
use Rattle.writes.proofs.FenceLines.{fenced_lines}
use Rattle.writes.proofs.close_lines.Given as goal

abbrev pub invariant-loop-l : goal.invariant-loop-l
invariant-loop-l l = (l.l ≤ l.end) × (l.fenced ≡ fenced_lines l.fence l.number l.stored l.backed 0 l.l l.initial.fenced)

abbrev pub decreases-loop-l : goal.decreases-loop-l
decreases-loop-l l = l.end - l.l
