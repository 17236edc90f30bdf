-- One more blank is put.
use Rattle.std.proofs.Common.{ℕ, sym}
use Rattle.std.proofs.lemmas.List.{replicate_more}
use Rattle.text.proofs.Puts.{nothing, ◌then◌}
use Rattle.text.proofs.Cursor.blanks.Goals as goal

pub loop-init : goal.loop-init
loop-init c = nothing c.args.self.now

pub loop-preserved : goal.loop-preserved
loop-preserved c = rw (sym (replicate_more {X = ℕ} c.loop.counter 32)) (c.loop.invariant then c.put_byte.ensures)
