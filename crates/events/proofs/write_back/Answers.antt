-- `events::write_back` meets its contract: its finding is that of its lines, which the tables have.
use Rattle.tables.specs.Lent.{lent}
use Rattle.tables.proofs.InTables.{in_tables_lem}
use Rattle.findings.proofs.Found.{back_tables}
use Rattle.events.proofs.write_back.Goals as goal

pub returns-clause-value : goal.returns-clause-value
returns-clause-value c = rw (back_tables (lent c.args.run.now) c.args.a, c.of_back-finding.ensures, in_tables_lem c.args.a c.requires.1)
