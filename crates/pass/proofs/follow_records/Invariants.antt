-- The loop's invariant: the records that are left lead to where all of them lead from the run that was lent.
use Rattle.std.proofs.Common.{◌≡◌}
use Rattle.tables.specs.Lent.{lent, SameLent}
use Rattle.pass.proofs.FollowedLeft.{left_followed}
use Rattle.pass.proofs.follow_records.Given as goal

abbrev pub invariant-loop-i : goal.invariant-loop-i
invariant-loop-i l =
    (left_followed l.records l.count l.i (lent l.run) ≡ left_followed l.records l.count 0 (lent l.initial.run)) × SameLent l.run l.initial.run
