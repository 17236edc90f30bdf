-- `exposure::sum_bytes` meets its contract. The loop's invariant: the sums over the bytes so far, with their bounds. Assumes nothing.
use native.Mathlib.Omega.{arith}
use Rattle.exposure.proofs.Total.{sums_none, sums_next, sums_same}
use Rattle.exposure.proofs.sum_bytes.Goals as goal
use Rattle.exposure.proofs.sum_bytes.Goals.{then-stored-b-ne0, else-stored-b-ne0}

pub loop-b-init : goal.loop-b-init
loop-b-init c = sums_none _

pub loop-b-preserved : goal.loop-b-preserved
loop-b-preserved c =
    elim c.if-stored-b-ne0.branch [
      | then-stored-b-ne0 w ↦
          rw (w.epochs-is, w.count-is)
          (sums_next c.loop-b.invariant w.interval_from-interval.ensures w.epochs_at_risk.ensures (omega arith) w.one_if_closed-count.ensures)
      | else-stored-b-ne0 w ↦ rw (w.epochs-is, w.count-is) (sums_same c.loop-b.invariant (rw w.if-stored-b-ne0.false))
    ]
