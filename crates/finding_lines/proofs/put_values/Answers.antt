-- The parts are put one after another.
use Rattle.text.proofs.Puts.{◌then◌}
use Rattle.finding_lines.specs.Lines.{values}
use Rattle.finding_lines.proofs.put_values.Goals as goal

pub returns : goal.returns
unfolding values
returns c = c.put_field.ensures then c.put_field-2.ensures then c.put_field-3.ensures then c.put_field-4.ensures
