-- The parts are put one after another.
use Rattle.text.proofs.Puts.{◌then◌}
use Rattle.interval_lines.specs.Lines.{open_line}
use Rattle.interval_lines.proofs.put_open.Goals as goal

pub returns : goal.returns
unfolding open_line
returns c =
    c.put.ensures then c.number.ensures then c.put-2.ensures then c.number-2.ensures then c.put-3.ensures then c.number-3.ensures then
    c.put-4.ensures
