-- The finding lines of an area, as the code reads them.
use Rattle.std.specs.Prelude.{List, [], ◌++◌, ℕ, zero, suc}
use Rattle.finding_lines.specs.declared.Row.{Row}
use Rattle.finding_lines.specs.Lines.{finding_line}
use Rattle.finding_lines.specs.Rows.{row_at}

-- the line of a finding with its event's number and site
abbrev pub line_of : Row → List ℕ
line_of row = finding_line row.event row.site row.fields

-- the line of the finding with so many before it
abbrev pub line_at : ℕ → List ℕ → List ℕ
line_at before area = line_of (row_at before area)

-- the lines of so many findings after the first ones
unfoldable pub lines_from : (before count : ℕ) → List ℕ → List ℕ
lines_from before zero area = []
lines_from before (suc count) area = line_at before area ++ lines_from (suc before) count area
