-- The parts are put one after another.
use Rattle.text.proofs.Puts.{◌then◌}
use Rattle.page_lines.specs.Lines.{columns, row_line}
use Rattle.page_lines.proofs.row.Goals as goal

pub returns : goal.returns
unfolding columns row_line
returns c = c.right.ensures then c.right-2.ensures then c.put_name.ensures then c.put_values.ensures then c.put.ensures
