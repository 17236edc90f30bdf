-- The parts are put one after another.
use Rattle.text.proofs.Puts.{◌then◌}
use Rattle.interval_lines.specs.Lines.{closed_line}
use Rattle.interval_lines.proofs.put_closed.Goals as goal

pub returns : goal.returns
unfolding closed_line
returns c =
    c.put.ensures then c.number.ensures then c.put-2.ensures then c.number-2.ensures then c.put-3.ensures then c.number-3.ensures then
    c.put-4.ensures then c.number-4.ensures then c.put-5.ensures then c.number-5.ensures then c.put-6.ensures
