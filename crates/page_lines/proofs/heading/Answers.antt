-- The heading's definition computes to the text that is put.
use Rattle.page_lines.specs.Lines.{values, columns, heading}
use Rattle.page_lines.proofs.heading.Goals as goal

pub returns : goal.returns
unfolding values columns heading
returns c = c.put.ensures
