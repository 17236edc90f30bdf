-- One more line is put.
use Rattle.text.proofs.Puts.{nothing, ◌then◌}
use Rattle.finding_lines.specs.Area.{lines_from}
use Rattle.finding_lines.proofs.FindingLines.{lines_more}
use Rattle.finding_lines.proofs.findings.Goals as goal

pub loop-i-init : goal.loop-i-init
unfolding lines_from
loop-i-init c = nothing c.args.text.now

pub loop-i-preserved : goal.loop-i-preserved
loop-i-preserved c =
    rw (lines_more c.loop-i.i c.args.area.now) (c.loop-i.invariant then (rw c.row_at.ensures at c.finding.ensures))
