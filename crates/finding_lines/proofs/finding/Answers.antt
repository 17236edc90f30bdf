-- The columns are put where the kind is printed, else nothing.
use Rattle.text.proofs.Puts.{nothing}
use Rattle.finding_lines.specs.Lines.{finding_line}
use Rattle.finding_lines.proofs.finding.Goals as goal

pub returns-then-is_printed : goal.returns-then-is_printed
unfolding finding_line
returns-then-is_printed c = rw (← c.if-is_printed.ensures) c.put_columns.ensures

pub returns-else-is_printed : goal.returns-else-is_printed
unfolding finding_line
returns-else-is_printed c = rw (← c.if-is_printed.ensures) (nothing c.args.text.now)
