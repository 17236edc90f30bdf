-- The parts are put one after another.
use Rattle.text.proofs.Puts.{◌then◌}
use Rattle.reports.specs.Exposure.{exposure_line}
use Rattle.reports.proofs.exposing.put_mean.Goals as goal

pub returns : goal.returns
unfolding exposure_line
returns c = c.phrase.ensures then c.number.ensures then c.put.ensures
