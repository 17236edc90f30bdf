-- The line is one phrase.
use Rattle.lines.specs.Lines.{head_line}
use Rattle.lines.proofs.head.Goals as goal

pub returns : goal.returns
unfolding head_line
returns c = c.phrase.ensures
