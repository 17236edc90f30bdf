-- The first bytes are the pattern's, and the next one's value is known.
use Rattle.std.proofs.Common.{◌≡◌, ◌+◌, ◌*◌, ◌%◌, ◌++◌, length, drop}
use Rattle.writer_calls.specs.Writing.{pattern}
use Rattle.writer_calls.proofs.setting.fill.Given as goal

abbrev pub invariant-loop-b : goal.invariant-loop-b
invariant-loop-b l =
    (length l.b-items ≡ length l.fn.s) × (l.b-items ≡ pattern l.from l.step l.b-index ++ drop l.b-index l.fn.s) ×
    (l.x ≡ (l.from + l.step * l.b-index) % 256)
