-- The pages that are left, put behind those that are there, are all of them.
use Rattle.std.proofs.Common.{◌+◌, ◌-◌}
use Rattle.text.specs.Cursor.{Puts}
use Rattle.text.specs.declared.Cursor.{Cursor}
use Rattle.finding_lines.specs.Shown.{rows_left}
use Rattle.page_layout.specs.Pages.{pages_from}
use Rattle.page_layout.proofs.put_pages.Given as goal

abbrev pub invariant-loop-before : goal.invariant-loop-before
invariant-loop-before l =
    (o : Cursor) → Puts (pages_from (l.pages - l.before) (l.before + 1) l.pages (rows_left l.rows)) l.printed o →
    Puts (pages_from l.pages 1 l.pages (rows_left l.initial.rows)) l.initial.printed o
