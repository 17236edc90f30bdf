-- `records::padded` meets its contract: after i turns the first i bytes are those of the slice, or 0 past its end.
-- Assumes nothing.
use mathlib.Core.Path.{◌≡◌}
use lib.ListN.{length, take}
use Rattle.records.specs.Record.{padded}
use Rattle.records.proofs.padded.Given as goal

abbrev pub invariant-loop-i : goal.invariant-loop-i
invariant-loop-i l = (length l.t ≡ 12) × (take l.i l.t ≡ padded l.i l.s)
