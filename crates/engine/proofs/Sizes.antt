-- The sizes of the tables.
use mathlib.Core.Path.{◌≡◌}
use lib.ListN.{length}
use Rattle.event.specs.declared.Event.{Event}
use Rattle.event.specs.declared.Event.TheVariants.{Store, WriteBack, Fence, Begin, Log, End, Persisted, Ordered}
use Rattle.tables.specs.Run.{Run}
use Rattle.events.specs.Next.{tables_after}
use Rattle.tables.proofs.Table.{changed_length}

-- the tables have the sizes of the largest window
pub record Sized (run : Run) : Type 0 where
  pub stored : length run.stored ≡ 4096
  pub logged : length run.logged ≡ 4096
  pub fenced : length run.fenced ≡ 4096
  pub opened : length run.opened ≡ 4096
  pub closed : length run.closed ≡ 4096
  pub written : length run.written ≡ 4096
  pub dirtied : length run.dirtied ≡ 64
  pub backed : length run.backed ≡ 64

-- and keep them at each event
pub sized_next : (run : Run) → Sized run → (e : Event) → Sized (tables_after run e)
unfolding tables_after
sized_next run s (Store a) =
    record {
      stored = rw changed_length s.stored;
      logged = s.logged;
      fenced = s.fenced;
      opened = rw changed_length s.opened;
      closed = s.closed;
      written = s.written;
      dirtied = rw changed_length s.dirtied;
      backed = s.backed;
    }
sized_next run s (WriteBack a) =
    record {
      stored = s.stored;
      logged = s.logged;
      fenced = s.fenced;
      opened = s.opened;
      closed = s.closed;
      written = rw changed_length s.written;
      dirtied = s.dirtied;
      backed = rw changed_length s.backed;
    }
sized_next run s Fence =
    record {
      stored = s.stored;
      logged = s.logged;
      fenced = rw changed_length s.fenced;
      opened = s.opened;
      closed = rw changed_length s.closed;
      written = s.written;
      dirtied = s.dirtied;
      backed = s.backed;
    }
sized_next run s Begin = s
sized_next run s (Log a) =
    record {
      stored = s.stored;
      logged = rw changed_length s.logged;
      fenced = s.fenced;
      opened = s.opened;
      closed = s.closed;
      written = s.written;
      dirtied = s.dirtied;
      backed = s.backed;
    }
sized_next run s End = s
sized_next run s (Persisted a) = s
sized_next run s (Ordered a b) = s
