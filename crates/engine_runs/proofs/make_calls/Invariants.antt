-- The area and the preamble are within their spaces.
use Rattle.std.proofs.Common.{◌≤◌, length}
use Rattle.engine_runs.proofs.make_calls.Given as goal

abbrev pub invariant-loop : goal.invariant-loop
invariant-loop g l = (l.room ≤ length l.area) × (l.free ≤ length l.preamble)
