-- One more line is put, or there are no more findings.
use Rattle.std.proofs.Common.{◌∙◌, sym, refl, arith}
use Rattle.text.proofs.Puts.{nothing, ◌then◌}
use Rattle.finding_lines.specs.Shown.{rows_left}
use Rattle.page_layout.specs.Pages.{per_page, row_lines}
use Rattle.page_layout.proofs.Rows.{lines_more, drop_more, all_taken, all_dropped}
use Rattle.page_layout.proofs.put_rows.Goals as goal

pub loop-init : goal.loop-init
unfolding row_lines
loop-init c = record { lines = nothing c.args.text.now; rest = refl }

pub returns-in-None-clause-lines : goal.returns-in-None-clause-lines
returns-in-None-clause-lines c =
    let w = c.loop.invariant in
    rw (← all_taken c.loop.counter (rows_left c.args.rows.now) per_page (sym w.rest ∙ c.in-None.ensures.steps.0) (omega arith)) w.lines

pub returns-in-None-clause-rest : goal.returns-in-None-clause-rest
returns-in-None-clause-rest c =
    let none = c.in-None.ensures.steps in
    none.1 ∙ sym (all_dropped c.loop.counter (rows_left c.args.rows.now) per_page (sym c.loop.invariant.rest ∙ none.0) (omega arith))

pub loop-preserved : goal.loop-preserved
loop-preserved c =
    let w = c.loop.invariant in
    let n = c.loop.counter in
    let rows = rows_left c.args.rows.now in
    let first = sym w.rest ∙ c.in-Some.ensures.steps in
    record { lines = rw (lines_more n rows first) (w.lines then c.row.ensures); rest = sym (drop_more n rows first) }
