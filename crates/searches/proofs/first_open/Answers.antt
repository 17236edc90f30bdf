-- The search over what is left is the whole search, one line's part at a time: in a line that passes its bytes decide, and in another one
-- none passes.
use mathlib.Core.Path.{◌≡◌, sym, ap, ◌∙◌}
use mathlib.Core.Bool.{Bool, true, false}
use mathlib.Core.Option.{none}
use Prim.Native.Nat.{ℕ, ◌+◌, ◌-◌, ◌*◌, ◌≤◌, ◌<◌}
use native.Mathlib.Omega.{arith}
use Rattle.window.specs.Window.{line_of}
use Rattle.ranges.specs.Ranges.{range_end}
use Rattle.std.specs.Prelude.{Option as Answer}
use Rattle.searches.specs.Tests.{passing, searched, is_found}
use Rattle.searches.specs.declared.Test.TheVariants.{Open}
use Rattle.history.specs.Found.{lowest}
use Rattle.tables.specs.View.{open_line}
use Rattle.searches.proofs.FromFront.{left, found_nothing}
use Rattle.searches.proofs.EndLine.{by_line, line_passed, line_looked}
use Rattle.searches.proofs.Parts.{not_found, part_found, part_later}
use Rattle.searches.proofs.first_open.Goals as goal

-- the n bytes from `at` on are searched, and the search has come to `byte`: a turn searches from there to `stop`, on one line
module _ (line bytes : ℕ → Bool) (at n byte stop : ℕ) (same : left (by_line line bytes) (at + n) byte ≡ left (by_line line bytes) (at + n) at)
    (before : at ≤ byte) (here : byte < stop) (inside : stop ≤ at + n) (on : stop ≤ line_of byte * 64 + 64) where
  -- after a part in which none passes the search goes on
  goes_on : lowest (by_line line bytes) byte (stop - byte) ≡ none →
      (at ≤ stop) × (stop ≤ at + n) × (left (by_line line bytes) (at + n) stop ≡ left (by_line line bytes) (at + n) at)
  goes_on e =
      let next : byte + (stop - byte) ≡ stop = omega arith in
      (omega arith, inside, rw next at (part_later (by_line line bytes) at n byte same (stop - byte) (omega arith) e))

  passed : line (line_of byte) ≡ false →
      (at ≤ stop) × (stop ≤ at + n) × (left (by_line line bytes) (at + n) stop ≡ left (by_line line bytes) (at + n) at)
  passed e = goes_on (line_passed line bytes (line_of byte) byte (stop - byte) (omega arith) (omega arith) e)

  module _ (looks : line (line_of byte) ≡ true) where
    looked : lowest bytes byte (stop - byte) ≡ lowest (by_line line bytes) byte (stop - byte)
    looked = line_looked line bytes (line_of byte) byte (stop - byte) (omega arith) (omega arith) looks

    none_there : is_found (lowest bytes byte (stop - byte)) ≡ false →
        (at ≤ stop) × (stop ≤ at + n) × (left (by_line line bytes) (at + n) stop ≡ left (by_line line bytes) (at + n) at)
    none_there e = goes_on (sym looked ∙ not_found _ e)

    found_there : {s : Answer ℕ} → is_found (lowest bytes byte (stop - byte)) ≡ true → s ≡ searched (lowest bytes byte (stop - byte)) →
        s ≡ searched (lowest (by_line line bytes) at n)
    found_there e found = part_found (by_line line bytes) at n byte same (stop - byte) (omega arith) (rw looked at e) (rw looked at found)

pub returns-then-any : goal.returns-then-any
returns-then-any c =
    let r = c.args.tables in
    let s = c.line_stop-stop.ensures in
    let fits = ap range_end c.in_tables-part.ensures in
    rw c.in_tables-part.ensures at
    (found_there (open_line c.args.fence r.dirtied.now r.backed.now) (passing Open r.stored.now r.fenced.now) _ _ c.loop-b.b c.line_stop-stop.result
    c.loop-b.invariant.2 (omega arith) (omega (arith, s, fits)) (omega (arith, s)) (omega (arith, s)) (sym c.if-line_open.ensures)
    (sym c.if-any.ensures) c.first.ensures)

pub loop-b-preserved-else-any : goal.loop-b-preserved-else-any
loop-b-preserved-else-any c =
    let r = c.args.tables in
    let s = c.line_stop-stop.ensures in
    let fits = ap range_end c.in_tables-part.ensures in
    none_there (open_line c.args.fence r.dirtied.now r.backed.now) (passing Open r.stored.now r.fenced.now) _ _ c.loop-b.b c.line_stop-stop.result
    c.loop-b.invariant.2 (omega arith) (omega (arith, s, fits)) (omega (arith, s)) (omega (arith, s)) (sym c.if-line_open.ensures)
    (sym c.if-any.ensures)

pub loop-b-preserved : goal.loop-b-preserved
loop-b-preserved c =
    let r = c.args.tables in
    let s = c.line_stop-stop.ensures in
    let fits = ap range_end c.in_tables-part.ensures in
    passed (open_line c.args.fence r.dirtied.now r.backed.now) (passing Open r.stored.now r.fenced.now) _ _ c.loop-b.b c.line_stop-stop.result
    c.loop-b.invariant.2 (omega arith) (omega (arith, s, fits)) (omega (arith, s)) (omega (arith, s)) (sym c.if-line_open.ensures)

pub returns : goal.returns
returns c = rw c.in_tables-part.ensures at (found_nothing _ _ _ c.loop-b.b c.loop-b.invariant.2 (omega arith))
