-- The parts are put one after another.
use Rattle.text.proofs.Puts.{◌then◌}
use Rattle.page_lines.specs.Lines.{values}
use Rattle.page_lines.proofs.put_values.Goals as goal

pub returns : goal.returns
unfolding values
returns c = c.right.ensures then c.right-2.ensures then c.right-3.ensures then c.right-4.ensures
