-- The parts are put one after another.
use Rattle.text.proofs.Puts.{◌then◌}
use Rattle.finding_lines.specs.Lines.{field}
use Rattle.finding_lines.proofs.put_field.Goals as goal

pub returns : goal.returns
unfolding field
returns c = c.put.ensures then c.number.ensures
