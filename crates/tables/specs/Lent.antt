-- A run that the caller lends part by part.
use Rattle.std.specs.Prelude.{◌≡◌}
use Rattle.tables.specs.declared.LentRun.{LentRun}
use Rattle.tables.specs.Run.{Run}
use Rattle.tables.specs.View.{run_of}

-- the run that is lent
abbrev pub lent : LentRun → Run
lent r =
    run_of r.counts.now r.stored.now r.logged.now r.fenced.now r.opened.now r.closed.now r.written.now r.dirtied.now r.backed.now

-- the numbers and tables lent are the same ones, whatever they hold: a reference's ghost name tells what is lent
abbrev pub SameLent : LentRun → LentRun → Type 0
SameLent r s =
    (r.counts.ghost_name ≡ s.counts.ghost_name) × (r.stored.ghost_name ≡ s.stored.ghost_name) ×
    (r.logged.ghost_name ≡ s.logged.ghost_name) × (r.fenced.ghost_name ≡ s.fenced.ghost_name) ×
    (r.opened.ghost_name ≡ s.opened.ghost_name) × (r.closed.ghost_name ≡ s.closed.ghost_name) ×
    (r.written.ghost_name ≡ s.written.ghost_name) × (r.dirtied.ghost_name ≡ s.dirtied.ghost_name) ×
    (r.backed.ghost_name ≡ s.backed.ghost_name)
