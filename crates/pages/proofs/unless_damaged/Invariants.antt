-- What is left of the check leads to what the whole check does.
use Rattle.std.proofs.Common.{◌≡◌, ◌-◌}
use Rattle.pages.specs.Paged.{unless_damaged}
use Rattle.pages.proofs.unless_damaged.Given as goal

abbrev pub invariant-loop-before : goal.invariant-loop-before
invariant-loop-before l = unless_damaged l.before (l.count - l.before) l.findings l.answer ≡ unless_damaged 0 l.count l.findings l.answer
