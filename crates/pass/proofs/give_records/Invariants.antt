-- The loop's invariant: the records that are left lead to where all of them lead from the run that was lent.
use Rattle.std.proofs.Common.{◌≡◌}
use Rattle.tables.specs.Lent.{lent, SameLent}
use Rattle.record_step.specs.Step.{stage}
use Rattle.pass.proofs.RecordsLeft.{left_judged}
use Rattle.pass.proofs.give_records.Given as goal

abbrev pub invariant-loop-i : goal.invariant-loop-i
invariant-loop-i l =
    (left_judged l.records l.count l.i (stage (lent l.run) l.buffer) ≡
    left_judged l.records l.count 0 (stage (lent l.initial.run) l.initial.buffer)) × SameLent l.run l.initial.run
