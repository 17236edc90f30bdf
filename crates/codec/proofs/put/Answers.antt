-- One more byte put: it stands in the slice after the ones before it.
use Rattle.std.proofs.Common.{arith}
use lib.ListN.{length-set}
use Rattle.codec.proofs.Placed.{put_more}
use Rattle.codec.proofs.put.Goals as goal

pub loop-i-preserved : goal.loop-i-preserved
loop-i-preserved c =
    let k = c.args in
    let l = c.loop-i in
    (simp length-set l.invariant.0, put_more k.slice.now k.at k.bytes.now l.i l.invariant.1 (omega arith) (omega arith))
