-- `searches::first_since_begin` meets its contract: the search over the lines that are left is the whole search.
-- Assumes nothing.
use mathlib.Core.Path.{◌≡◌, refl, sym}
use Prim.Native.Nat.{◌+◌, ◌*◌}
use native.Mathlib.Omega.{arith}
use Rattle.searches.specs.declared.Test.TheVariants.{OpenSince}
use Rattle.searches.specs.Tests.{passing, line_at_end}
use Rattle.searches.proofs.EndLine.{line_passed, line_searched}
use Rattle.searches.proofs.FromFront.{found_nothing}
use Rattle.searches.proofs.Parts.{part_here, part_later}
use Rattle.searches.proofs.Searched.{found_none, found_some}
use Rattle.searches.proofs.first_since_begin.Goals as goal
use Rattle.searches.proofs.first_since_begin.Goals.{then-line_at_end+in_default, else-line_at_end}

pub returns-in-Some : goal.returns-in-Some
returns-in-Some c =
    let r = c.args.tables in
    rw c.lines_of-lines.ensures at
    (part_here _ 0 _ (c.loop-l.l * 64) c.loop-l.invariant 64 (omega arith)
    (found_some _ refl
    (line_searched (line_at_end c.args.counts.begin c.args.counts.fence r.dirtied.now r.backed.now)
    (passing (OpenSince c.args.counts.begin) r.stored.now r.fenced.now) c.loop-l.l (sym c.if-line_at_end.ensures) (omega arith)
    c.line_start-at.ensures c.in-Some.ensures)))

pub loop-l-preserved : goal.loop-l-preserved
loop-l-preserved c =
    let r = c.args.tables in
    let l = c.loop-l.l in
    let line = line_at_end c.args.counts.begin c.args.counts.fence r.dirtied.now r.backed.now in
    let bytes = passing (OpenSince c.args.counts.begin) r.stored.now r.fenced.now in
    let next : (l + 1) * 64 ≡ l * 64 + 64 = omega arith in
    rw next
    (part_later _ 0 _ (l * 64) c.loop-l.invariant 64 (omega arith)
    (elim c.if-line_at_end.branch [
      | then-line_at_end+in_default w ↦
          found_none _ refl (line_searched line bytes l (sym w.if-line_at_end.ensures) (omega arith) w.line_start-at.ensures w.in_default.ensures)
      | else-line_at_end w ↦ line_passed line bytes l (l * 64) 64 (omega arith) (omega arith) (sym w.if-line_at_end.ensures)
    ]))

pub returns : goal.returns
returns c = rw c.lines_of-lines.ensures at (found_nothing _ 0 _ (c.loop-l.l * 64) c.loop-l.invariant (omega arith))
