-- The parts are put one after another.
use Rattle.text.proofs.Puts.{◌then◌}
use Rattle.lines.specs.Lines.{foot_line}
use Rattle.lines.proofs.foot.Goals as goal

pub returns : goal.returns
unfolding foot_line
returns c = c.put.ensures then c.number.ensures then c.put-2.ensures
