-- The byte is put where there is room, else nothing.
use Rattle.std.proofs.Common.{refl, arith}
use Rattle.text.proofs.Puts.{byte_put, byte_left}
use Rattle.text.proofs.Cursor.put_byte.Goals as goal

pub returns-then-self : goal.returns-then-self
returns-then-self c =
    let s = c.args.self.now in
    record { text = byte_put s.bytes.now s.next c.args.byte (omega arith); same = refl }

pub returns-else-self : goal.returns-else-self
returns-else-self c =
    let s = c.args.self.now in
    record { text = byte_left s.bytes.now s.next c.args.byte (omega arith); same = refl }
