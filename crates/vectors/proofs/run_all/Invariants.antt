-- No more traces differ than were run, and each turn ran one.
use Rattle.std.proofs.Common.{◌≤◌}
use Rattle.vectors.proofs.run_all.Given as goal

abbrev pub invariant-loop : goal.invariant-loop
invariant-loop g l = (l.ran.traces ≤ l.counter) × (l.ran.differ ≤ l.ran.traces)
