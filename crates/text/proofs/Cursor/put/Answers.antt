-- One more byte is put.
use Rattle.std.proofs.Common.{arith}
use Rattle.std.proofs.lemmas.List.{take_more}
use Rattle.text.proofs.Puts.{nothing, ◌then◌}
use Rattle.text.proofs.Cursor.put.Goals as goal

pub loop-byte-init : goal.loop-byte-init
loop-byte-init c = nothing c.args.self.now

pub loop-byte-preserved : goal.loop-byte-preserved
loop-byte-preserved c =
    let i = c.loop-byte.byte-index in
    rw (take_more c.args.word.now i 0 (omega arith)) (c.loop-byte.invariant then c.put_byte.ensures)
