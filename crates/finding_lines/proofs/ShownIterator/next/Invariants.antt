-- The findings that were passed over are not shown.
use Rattle.std.proofs.Common.{◌-◌, ◌≡◌}
use Rattle.finding_lines.specs.Shown.{rows_left}
use Rattle.finding_lines.proofs.ShownIterator.next.Given as goal

abbrev pub invariant-loop-self : goal.invariant-loop-self
invariant-loop-self l = rows_left l.self ≡ rows_left l.initial.self

abbrev pub decreases-loop-self : goal.decreases-loop-self
decreases-loop-self l = l.self.count - l.self.before
