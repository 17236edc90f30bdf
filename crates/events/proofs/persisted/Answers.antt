-- `events::persisted` meets its contract: its finding, and one more event.
use Rattle.std.proofs.Common.{add-one}
use Rattle.tables.specs.Lent.{lent}
use Rattle.tables.proofs.InTables.{in_tables_address, in_tables_length}
use Rattle.findings.proofs.Found.{persisted_found}
use Rattle.events.specs.Next.{counts_after, tables_after}
use Rattle.events.proofs.persisted.Goals as goal

pub returns-clause-value : goal.returns-clause-value
returns-clause-value c =
    let a = c.args.a in
    let r = c.risk_tables.ensures in
    rw (
      persisted_found (lent c.args.run.now) a,
      c.of_persisted-finding.ensures,
      r.stored,
      r.fenced,
      r.dirtied,
      r.backed,
      add-one,
      in_tables_address a c.requires.1,
      in_tables_length a c.requires.1,
    )

pub returns-clause-run_after : goal.returns-clause-run_after
unfolding counts_after tables_after
returns-clause-run_after c = rw (c.counted-run.ensures)
