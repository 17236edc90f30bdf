-- `writer::next` meets its contract: the limits let a begin pass below depth 8, and an end inside a transaction.
use native.Mathlib.Omega.{arith}
use Rattle.limits.proofs.Passed.{begin_below, end_inside}
use Rattle.writer.proofs.next.Goals as goal

pub overflow_add-depth : goal.overflow_add-depth
overflow_add-depth c = let k = c.args.w in omega (arith, begin_below k.lines k.count k.depth (rw c.in-Begin.is at c.requires.passed))

pub overflow_sub-depth : goal.overflow_sub-depth
overflow_sub-depth c = let k = c.args.w in omega (arith, end_inside k.lines k.count k.depth (rw c.in-End.is at c.requires.passed))
