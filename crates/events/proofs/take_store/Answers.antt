-- `events::take_store` meets its contract: the numbers and tables that its calls ensure.
use Rattle.tables.proofs.InTables.{in_tables_address, in_tables_length}
use Rattle.events.specs.Next.{counts_after, tables_after}
use Rattle.events.proofs.take_store.Goals as goal

pub returns-clause-run_after : goal.returns-clause-run_after
unfolding counts_after tables_after
returns-clause-run_after c =
    let address = in_tables_address c.args.a c.requires.1 in
    let length = in_tables_length c.args.a c.requires.1 in
    let tables = c.store.ensures in
    rw (
      c.store_after.ensures,
      c.open_bytes.ensures,
      tables.stored_after,
      tables.dirtied_after,
      c.counted-next.ensures,
      address,
      length,
    )
