-- `writes::close_line` meets its contract: after i turns the first i bytes of the line are as after the fence.
-- Assumes nothing.
use mathlib.Core.Path.{◌≡◌}
use Rattle.tables.specs.Table.{entry, changed}
use Rattle.writes.specs.Fenced.{fence_now}
use Rattle.writes.proofs.close_line.Given as goal

abbrev pub invariant-loop-i : goal.invariant-loop-i
invariant-loop-i l = l.fenced ≡ changed (λ b old. fence_now l.back l.number (entry l.stored b) old) l.at l.i l.initial.fenced
