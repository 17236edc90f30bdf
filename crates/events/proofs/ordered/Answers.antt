-- `events::ordered` meets its contract: its finding, and one more event.
use Rattle.findings.proofs.Found.{ordered_tables}
use Rattle.tables.proofs.InTables.{in_tables_lem}
use Rattle.events.specs.Next.{counts_after, tables_after}
use Rattle.tables.specs.Lent.{lent}
use Rattle.events.proofs.ordered.Goals as goal

pub returns-clause-value : goal.returns-clause-value
returns-clause-value c =
    let k = c.args in
    rw (ordered_tables (lent k.run.now) k.a k.b, c.of_ordered-finding.ensures, in_tables_lem k.a c.requires.1, in_tables_lem k.b c.requires.2)

pub returns-clause-run_after : goal.returns-clause-run_after
unfolding counts_after tables_after
returns-clause-run_after c = rw (c.counted-run.ensures)
