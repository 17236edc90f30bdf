-- The blanks, and then the digits, which are the library's decimal.
use Rattle.std.proofs.Common.{arith}
use Rattle.text.proofs.Library.{same_decimal}
use Rattle.text.proofs.Puts.{◌then◌}
use Rattle.text.proofs.Cursor.right.Goals as goal

pub returns : goal.returns
returns c =
    rw (same_decimal c.args.n (omega arith), ← c.format.ensures.text, ← c.as_bytes-digits.ensures.value)
    ((rw c.saturating_sub.ensures at c.blanks.ensures) then c.put.ensures)
