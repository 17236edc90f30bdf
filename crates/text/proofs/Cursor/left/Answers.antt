-- The word, and then the blanks.
use Rattle.text.proofs.Puts.{◌then◌}
use Rattle.text.proofs.Cursor.left.Goals as goal

pub returns : goal.returns
returns c = c.put.ensures then rw c.saturating_sub.ensures at c.blanks.ensures
