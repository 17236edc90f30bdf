-- The last change of the bytes before this place is the last of all.
use Rattle.std.proofs.Common.{◌≡◌, length}
use Rattle.writer_calls.specs.Changes.{last_change}
use Rattle.writer_calls.proofs.changes.last_change.Given as goal

abbrev pub invariant-loop-i : goal.invariant-loop-i
invariant-loop-i l = last_change l.i l.before l.after ≡ last_change (length l.after) l.before l.after
