-- The lines up to here are put.
use Rattle.text.specs.Cursor.{Puts}
use Rattle.finding_lines.specs.Area.{lines_from}
use Rattle.finding_lines.proofs.findings.Given as goal

abbrev pub invariant-loop-i : goal.invariant-loop-i
invariant-loop-i l = Puts (lines_from 0 l.i l.area) l.initial.text l.text
