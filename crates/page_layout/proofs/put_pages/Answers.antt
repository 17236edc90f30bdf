-- A page, and those behind it with the findings that are left.
use Rattle.std.proofs.Common.{rules, arith}
use Rattle.text.proofs.Puts.{nothing, put_back}
use Rattle.finding_lines.specs.Shown.{rows_left}
use Rattle.page_layout.proofs.Rows.{page_turn, pages_done}
use Rattle.page_layout.proofs.put_pages.Goals as goal

pub loop-before-preserved : goal.loop-before-preserved
loop-before-preserved c =
    let l = c.loop-before in
    let p = c.put_page.ensures in
    λ o e. l.invariant o (page_turn l.before c.args.pages (rows_left l.rows) (omega arith) p.lines (rw p.rest at e))

pub returns : goal.returns
returns c =
    let l = c.loop-before in
    let all = l.invariant l.printed (pages_done l.before c.args.pages (rows_left l.rows) (omega arith) (nothing l.printed)) in
    let start = c.new-printed.ensures in
    rw (← c.new-rows.ensures) (put_back start.same_reference start.value all (search rules) c.place.ensures)
