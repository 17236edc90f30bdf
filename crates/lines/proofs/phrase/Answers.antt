-- The parts are put one after another.
use Rattle.text.proofs.Puts.{◌then◌}
use Rattle.lines.proofs.phrase.Goals as goal

pub returns : goal.returns
returns c = c.put.ensures then c.number.ensures then c.put-2.ensures then c.number-2.ensures then c.put-3.ensures
