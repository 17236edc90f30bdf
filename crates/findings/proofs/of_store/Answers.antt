-- `findings::of_store` meets its contract: inside a transaction the finding is at the byte that the search found.
use mathlib.Core.Path.{refl}
use mathlib.Core.List.{[]}
use Rattle.tables.specs.Table.{in_tables}
use Rattle.tables.specs.View.{run_of}
use Rattle.findings.proofs.Found.{store_outside, store_inside}
use Rattle.searches.proofs.Searched.{found_none, found_some}
use Rattle.findings.proofs.of_store.Goals as goal

pub returns-then-counts-eq0 : goal.returns-then-counts-eq0
returns-then-counts-eq0 c = store_outside (run_of c.args.counts [] c.args.logged.now [] [] [] [] [] []) (in_tables c.args.a) c.if-counts-eq0.true

pub returns-in-None : goal.returns-in-None
returns-in-None c =
    let k = store_inside (run_of c.args.counts [] c.args.logged.now [] [] [] [] [] []) (in_tables c.args.a) c.if-counts-eq0.false in
    rw (← k, found_none _ refl c.in-None.ensures)

pub returns-in-Some : goal.returns-in-Some
returns-in-Some c =
    let k = store_inside (run_of c.args.counts [] c.args.logged.now [] [] [] [] [] []) (in_tables c.args.a) c.if-counts-eq0.false in
    rw (← k, found_some _ refl c.in-Some.ensures)
