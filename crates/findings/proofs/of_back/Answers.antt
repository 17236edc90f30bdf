-- `findings::of_back` meets its contract: the finding is at the line that the search found, which is within the tables.
use mathlib.Core.Path.{refl}
use mathlib.Core.List.{[]}
use native.Mathlib.Omega.{arith}
use borrow.Author.Tests.{eq-eqb, ne_eqb}
use Rattle.tables.specs.Table.{in_tables}
use Rattle.tables.specs.View.{run_of, no_counts}
use Rattle.findings.proofs.Found.{back_found}
use Rattle.tables.proofs.InTables.{in_tables_lines}
use Rattle.searches.proofs.Searched.{found_none, found_some, lowest_below}
use Rattle.findings.proofs.of_back.Goals as goal

pub bounds-dirtied-i : goal.bounds-dirtied-i
bounds-dirtied-i c = omega (arith, lowest_below _ _ _ (found_some _ refl c.in-Some.ensures), in_tables_lines c.args.a)

pub returns-in-None : goal.returns-in-None
returns-in-None c =
    let found = back_found (run_of (no_counts 0) [] [] [] [] [] [] c.args.dirtied.now c.args.backed.now) (in_tables c.args.a) in
    rw (found, found_none _ refl c.in-None.ensures)

pub returns-then-dirtied-i-eq0 : goal.returns-then-dirtied-i-eq0
returns-then-dirtied-i-eq0 c =
    let found = back_found (run_of (no_counts 0) [] [] [] [] [] [] c.args.dirtied.now c.args.backed.now) (in_tables c.args.a) in
    rw (found, found_some _ refl c.in-Some.ensures, c.line_start-lost.ensures, eq-eqb _ 0 c.if-dirtied-i-eq0.true)

pub returns-else-dirtied-i-eq0 : goal.returns-else-dirtied-i-eq0
returns-else-dirtied-i-eq0 c =
    let found = back_found (run_of (no_counts 0) [] [] [] [] [] [] c.args.dirtied.now c.args.backed.now) (in_tables c.args.a) in
    rw (found, found_some _ refl c.in-Some.ensures, c.line_start-lost.ensures, ne_eqb _ 0 c.if-dirtied-i-eq0.false)
