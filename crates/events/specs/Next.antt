-- The run after an accepted event: its numbers, and what each table then holds.
use Rattle.std.specs.Prelude.{ℕ, suc, ◌%◌, ◌^◌, Bool, cond, ◌&&◌, List, ◌==◌, nat_lt}
use Rattle.event.specs.declared.Range.{Range}
use Rattle.event.specs.declared.Event.{Event}
use Rattle.event.specs.declared.Event.TheVariants.{Store, WriteBack, Fence, Begin, Log, End, Persisted, Ordered}
use Rattle.event.specs.declared.Finding.{Finding}
use Rattle.event.specs.Numbers.{is_none}
use Rattle.window.specs.Window.{window_bytes, line_of}
use Rattle.ranges.specs.Ranges.{line_count}
use Rattle.history.specs.History.{fences, begins, stores_some}
use Rattle.history.specs.Transaction.{depth_after}
use Rattle.history.specs.Found.{at_risk}
use Rattle.tables.specs.declared.Counts.{Counts}
use Rattle.tables.specs.Run.{Run}
use Rattle.tables.specs.Table.{changed, filled_bytes, filled_lines}
use Rattle.tables.specs.View.{lines_of, run_of, of_run}
use Rattle.intervals.specs.Now.{backed_now, closed_now}

-- the event's own number
abbrev pub next_number : Counts → ℕ
next_number counts = suc counts.events

-- one more, in 16 bits
abbrev pub one_more : ℕ → ℕ
one_more n = suc n % 2 ^ 16

-- the numbers with one more event, which got this finding
abbrev pub counted_with : Counts → Finding → Counts
counted_with c f =
    record {
      lines = c.lines;
      events = next_number c;
      fences = c.fences;
      findings = cond (is_none f) c.findings (one_more c.findings);
      depth = c.depth;
      begin = c.begin;
      store = c.store;
      fence = c.fence;
    }

-- the numbers after the event, which got this finding
unfoldable pub counts_after : Counts → Event → Finding → Counts
counts_after c e f =
    let next = counted_with c f in
    record {
      lines = next.lines;
      events = next.events;
      fences = cond (fences e) (one_more c.fences) c.fences;
      findings = next.findings;
      depth = depth_after e c.depth;
      begin = cond (begins e && c.depth == 0) next.events c.begin;
      store = cond (stores_some e) next.events c.store;
      fence = cond (fences e) next.events c.fence;
    }

-- a fence closes the byte: its interval is open, and its line was written back since its last store and since the last fence
abbrev pub closes : Run → ℕ → Bool
closes run b =
    at_risk (of_run run) b && nat_lt ((of_run run).last_store b) ((of_run run).line_back (line_of b)) &&
    nat_lt run.counts.fence ((of_run run).line_back (line_of b))

-- a store: the last of its bytes and of its lines; the intervals of its bytes open at the epoch
abbrev pub after_store : Run → Range → Run
after_store run a =
    let n = next_number run.counts in
    record {
      counts = run.counts;
      stored = filled_bytes n a run.stored;
      logged = run.logged;
      fenced = run.fenced;
      opened = filled_bytes run.counts.fences a run.opened;
      closed = run.closed;
      written = run.written;
      dirtied = filled_lines n a run.dirtied;
      backed = run.backed;
    }

-- a write-back: the last of its lines, and the first of those of their bytes that have had none since their last store
abbrev pub after_back : Run → Range → Run
after_back run a =
    let n = next_number run.counts in
    record {
      counts = run.counts;
      stored = run.stored;
      logged = run.logged;
      fenced = run.fenced;
      opened = run.opened;
      closed = run.closed;
      written = changed (backed_now n run.stored) (window_bytes (line_of a.address)) (window_bytes (line_count a)) run.written;
      dirtied = run.dirtied;
      backed = filled_lines n a run.backed;
    }

-- the closing fences after a fence: it closes bytes of the window
abbrev pub fenced_after : Run → List ℕ
fenced_after run =
    changed (λ b old. cond (closes run b) (next_number run.counts) old) 0 (window_bytes (lines_of run.counts)) run.fenced

-- a fence: the epoch that it begins is the closing epoch of the bytes that it closes
abbrev pub after_fence : Run → Run
after_fence run =
    record {
      counts = run.counts;
      stored = run.stored;
      logged = run.logged;
      fenced = fenced_after run;
      opened = run.opened;
      closed =
          changed (closed_now (next_number run.counts) (one_more run.counts.fences) (fenced_after run)) 0 (window_bytes (lines_of run.counts))
          run.closed;
      written = run.written;
      dirtied = run.dirtied;
      backed = run.backed;
    }

-- a log: the last of its bytes
abbrev pub after_log : Run → Range → Run
after_log run a =
    run_of run.counts run.stored (filled_bytes (next_number run.counts) a run.logged) run.fenced run.opened run.closed run.written
    run.dirtied run.backed

-- the run with its tables as they are after the event, and its numbers as they were
unfoldable pub tables_after : Run → Event → Run
tables_after run (Store a) = after_store run a
tables_after run (WriteBack a) = after_back run a
tables_after run Fence = after_fence run
tables_after run Begin = run
tables_after run (Log a) = after_log run a
tables_after run End = run
tables_after run (Persisted a) = run
tables_after run (Ordered a b) = run
