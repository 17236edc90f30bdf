-- `events::store` meets its contract: its finding is that of its bytes, which the tables have.
use Rattle.tables.specs.Lent.{lent}
use Rattle.tables.proofs.InTables.{in_tables_lem}
use Rattle.findings.proofs.Found.{store_tables}
use Rattle.events.proofs.store.Goals as goal

pub returns-clause-value : goal.returns-clause-value
returns-clause-value c = rw (store_tables (lent c.args.run.now) c.args.a, c.of_store-finding.ensures, in_tables_lem c.args.a c.requires.1)
