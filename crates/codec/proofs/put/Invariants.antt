-- `codec::put` meets its contract. The loop's invariant: the first bytes stand in the slice, as many as were put. Assumes nothing.
use mathlib.Core.Path.{◌≡◌}
use lib.ListN.{length}
use lib.Seq.{paste}
use Rattle.codec.proofs.put.Given as goal

abbrev pub invariant-loop-i : goal.invariant-loop-i
invariant-loop-i l = (length l.slice ≡ length l.initial.slice) × (l.slice ≡ paste l.initial.slice l.at l.bytes l.i)
