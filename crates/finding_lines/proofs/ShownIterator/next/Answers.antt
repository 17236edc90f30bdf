-- A finding that is shown is the first of those left, and one that is not is passed over.
use Rattle.std.proofs.Common.{◌∙◌, sym, refl, ap, arith, rules, length}
use Rattle.finding_lines.proofs.Rows.{next_shown, next_hidden, rows_done}
use Rattle.finding_lines.proofs.ShownIterator.next.Goals as goal

pub returns-then-is_printed-clause-steps : goal.returns-then-is_printed-clause-steps
returns-then-is_printed-clause-steps c =
    let s = c.loop-self.self in
    sym c.loop-self.invariant ∙ next_shown s.area.now s.before s.count c.row_at.ensures (omega arith)
    (rw (c.row_at.ensures, ← c.byte_at.ensures) c.if-is_printed.ensures)

pub returns-then-is_printed-clause-goes : goal.returns-then-is_printed-clause-goes
returns-then-is_printed-clause-goes c =
    let one = ap length (returns-then-is_printed-clause-steps c) in
    search rules

pub loop-self-preserved : goal.loop-self-preserved
loop-self-preserved c =
    let s = c.loop-self.self in
    sym (next_hidden s.area.now s.before s.count refl (omega arith) (rw (← c.byte_at.ensures) c.if-is_printed.ensures)) ∙ c.loop-self.invariant

pub returns-clause-steps : goal.returns-clause-steps
returns-clause-steps c =
    let s = c.loop-self.self in
    let none = rows_done s.area.now s.before s.count (omega arith) in
    (sym c.loop-self.invariant ∙ none, none)
