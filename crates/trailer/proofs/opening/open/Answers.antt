-- `trailer::opening::open` meets its contract: the limits are tested in their order, each on what the ones before it let pass.
use native.Mathlib.Omega.{arith}
use Rattle.trailer.proofs.FileLimits.{too_short, too_long, mark_differs, bad_lines_lem, length_differs, opens}
use Rattle.trailer.proofs.opening.open.Goals as goal

pub returns-in_default : goal.returns-in_default
returns-in_default c = too_short c.args.s.now (omega (arith, c.in_default.ensures))

pub returns-then-s-gt65536 : goal.returns-then-s-gt65536
returns-then-s-gt65536 c = too_long c.args.s.now c.in-Some.ensures.0 c.if-s-gt65536.true

pub returns-then-not-has_mark : goal.returns-then-not-has_mark
returns-then-not-has_mark c =
    let p = c.in-Some.ensures in
    mark_differs c.args.s.now p.0 (omega arith) p.1 c.has_mark.ensures c.if-not-has_mark.true

pub returns-then-is_bad_window : goal.returns-then-is_bad_window
returns-then-is_bad_window c =
    let p = c.in-Some.ensures in
    bad_lines_lem c.args.s.now p.0 (omega arith) p.1 c.has_mark.ensures c.if-not-has_mark.false
    c.read_trailer-t.ensures c.is_bad_window.ensures c.if-is_bad_window.true

pub returns-then-not-ends_at : goal.returns-then-not-ends_at
returns-then-not-ends_at c =
    let p = c.in-Some.ensures in
    length_differs c.args.s.now p.0 (omega arith) p.1 c.has_mark.ensures c.if-not-has_mark.false
    c.read_trailer-t.ensures c.is_bad_window.ensures c.if-is_bad_window.false c.ends_at.ensures c.if-not-ends_at.true

pub returns : goal.returns
returns c =
    let p = c.in-Some.ensures in
    opens c.args.s.now p.0 (omega arith) p.1 c.has_mark.ensures c.if-not-has_mark.false
    c.read_trailer-t.ensures c.is_bad_window.ensures c.if-is_bad_window.false c.ends_at.ensures c.if-not-ends_at.false
