-- `writes::close_some` meets its contract: the bytes of the lines before l are as after the fence.
-- Assumes nothing.
use mathlib.Core.Path.{◌≡◌}
use Rattle.writes.proofs.FenceLines.{fenced_lines}
use Rattle.writes.proofs.close_some.Given as goal

abbrev pub invariant-loop-l : goal.invariant-loop-l
invariant-loop-l l = l.fenced ≡ fenced_lines l.fence l.number l.stored l.backed l.from l.l l.initial.fenced
