-- Before the loop no fence was given. Each turn gives one more.
use Rattle.std.proofs.Common.{refl, add-one}
use Rattle.engine_runs.specs.Runs.{after_fences}
use Rattle.engine_runs.proofs.calls.give_fences.Goals as goal

pub loop-init : goal.loop-init
unfolding after_fences
loop-init c = refl

pub loop-preserved : goal.loop-preserved
unfolding after_fences
loop-preserved c = rw (add-one, c.give.ensures.run_after, c.loop.invariant)
