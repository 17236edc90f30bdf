-- The library's decimal is this crate's.
use Rattle.std.proofs.Common.{arith}
use Rattle.text.proofs.Library.{same_decimal}
use Rattle.text.proofs.Cursor.number.Goals as goal

pub returns : goal.returns
returns c = rw (same_decimal c.args.n (omega arith), ← c.format.ensures.text, ← c.as_bytes.ensures.value) c.put.ensures
