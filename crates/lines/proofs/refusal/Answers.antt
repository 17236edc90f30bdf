-- The line is one phrase.
use Rattle.lines.specs.Lines.{refusal_line}
use Rattle.lines.proofs.refusal.Goals as goal

pub returns : goal.returns
unfolding refusal_line
returns c = c.phrase.ensures
