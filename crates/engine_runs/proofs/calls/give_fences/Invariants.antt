-- The run is that after so many fences.
use Rattle.std.proofs.Common.{◌≡◌}
use Rattle.engine_runs.specs.Runs.{after_fences}
use Rattle.engine_runs.proofs.calls.give_fences.Given as goal

abbrev pub invariant-loop : goal.invariant-loop
invariant-loop l = l.run ≡ after_fences l.initial.run l.counter
