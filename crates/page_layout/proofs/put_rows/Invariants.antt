-- So many findings are put, and those behind them are left.
use Rattle.std.proofs.Common.{◌≡◌, take, drop}
use Rattle.text.specs.Cursor.{Puts}
use Rattle.finding_lines.specs.Shown.{rows_left}
use Rattle.page_layout.specs.Pages.{row_lines}
use Rattle.page_layout.proofs.put_rows.Given as goal

abbrev pub invariant-loop : goal.invariant-loop
invariant-loop l = record {
  lines : Puts (row_lines (take l.counter (rows_left l.initial.rows))) l.initial.text l.text;
  rest : rows_left l.rows ≡ drop l.counter (rows_left l.initial.rows);
}
