-- The findings that are shown, one after another.
use Rattle.std.specs.Prelude.{List, ◌-◌}
use Rattle.finding_lines.specs.declared.Row.{Row}
use Rattle.finding_lines.specs.declared.Shown.{Shown}
use Rattle.finding_lines.specs.Rows.{rows_from}

-- those that are still to come
abbrev pub rows_left : Shown → List Row
rows_left s = rows_from s.before (s.count - s.before) s.area.now
