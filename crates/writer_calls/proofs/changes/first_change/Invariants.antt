-- The first change from here on is the first of all.
use Rattle.std.proofs.Common.{◌≡◌, ◌-◌, length}
use Rattle.writer_calls.specs.Changes.{first_change}
use Rattle.writer_calls.proofs.changes.first_change.Given as goal

abbrev pub invariant-loop-i : goal.invariant-loop-i
invariant-loop-i l = first_change (length l.after - l.i) l.i l.before l.after ≡ first_change (length l.after) 0 l.before l.after
