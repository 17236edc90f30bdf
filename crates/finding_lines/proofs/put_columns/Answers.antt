-- The parts are put one after another.
use Rattle.text.proofs.Puts.{◌then◌}
use Rattle.finding_lines.specs.Lines.{columns}
use Rattle.finding_lines.proofs.put_columns.Goals as goal

pub returns : goal.returns
unfolding columns
returns c =
    c.number.ensures then c.put_field.ensures then c.put.ensures then (rw c.name.ensures at c.put-2.ensures) then c.put_values.ensures then c.put-3.ensures
