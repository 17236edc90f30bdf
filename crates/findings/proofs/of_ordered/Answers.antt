-- `findings::of_ordered` meets its contract: the finding is at the pair that the search found, which is within the tables.
use mathlib.Core.Path.{refl}
use mathlib.Core.List.{[]}
use native.Mathlib.Omega.{arith}
use Rattle.tables.specs.Table.{in_tables}
use Rattle.tables.specs.View.{run_of, no_counts}
use Rattle.findings.proofs.Found.{ordered_found}
use Rattle.pairs.proofs.Searched.{found_no_pair, found_pair, pair_below}
use Rattle.findings.proofs.of_ordered.Goals as goal

pub bounds-stored-k : goal.bounds-stored-k
bounds-stored-k c = omega (arith, (pair_below _ _ _ _ (found_pair _ refl c.in-Some.ensures)).0)

pub bounds-stored-l : goal.bounds-stored-l
bounds-stored-l c = omega (arith, (pair_below _ _ _ _ (found_pair _ refl c.in-Some.ensures)).1)

pub returns-in-None : goal.returns-in-None
returns-in-None c =
    let found = ordered_found (run_of (no_counts 0) c.args.stored.now [] c.args.fenced.now [] [] [] [] []) (in_tables c.args.a) (in_tables c.args.b) in
    rw (found, found_no_pair _ refl c.in-None.ensures)

pub returns-in-Some : goal.returns-in-Some
returns-in-Some c =
    let found = ordered_found (run_of (no_counts 0) c.args.stored.now [] c.args.fenced.now [] [] [] [] []) (in_tables c.args.a) (in_tables c.args.b) in
    rw (found, found_pair _ refl c.in-Some.ensures)
