-- `events::log` meets its contract: its finding, and the numbers and the table that its calls ensure.
use Rattle.tables.specs.Lent.{lent}
use Rattle.tables.proofs.InTables.{in_tables_address, in_tables_length, in_tables_lem}
use Rattle.events.specs.Next.{counts_after, tables_after}
use Rattle.findings.proofs.Found.{log_tables}
use Rattle.events.proofs.log.Goals as goal

pub returns-clause-value : goal.returns-clause-value
returns-clause-value c = rw (log_tables (lent c.args.run.now) c.args.a, c.of_log-finding.ensures, in_tables_lem c.args.a c.requires.1)

pub returns-clause-run_after : goal.returns-clause-run_after
unfolding counts_after tables_after
returns-clause-run_after c =
    let address = in_tables_address c.args.a c.requires.1 in
    let length = in_tables_length c.args.a c.requires.1 in
    rw (c.fill_bytes.ensures, c.counted-next.ensures, address, length)
