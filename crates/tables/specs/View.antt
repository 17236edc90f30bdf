-- The questions of a judge (`View`), answered by a run.
use Rattle.std.specs.Prelude.{Bool, cond, ◌&&◌, ◌||◌, List, ℕ, replicate, min, eqb, leb, ltb}
use Rattle.event.specs.declared.Range.{Range}
use Rattle.event.specs.declared.Event.TheVariants.{Store}
use Rattle.event.specs.declared.Interval.{Interval}
use Rattle.event.specs.declared.Interval.TheVariants.{None, Open, Closed}
use Rattle.event.specs.declared.NamedInterval.{NamedInterval}
use Rattle.event.specs.declared.NamedInterval.TheVariants.{None as NoneNamed, Open as OpenNamed, Closed as ClosedNamed}
use Rattle.window.specs.Window.{most_lines, line_of}
use Rattle.history.specs.Count.{if_some}
use Rattle.history.specs.History.{stores_some}
use Rattle.history.specs.View.{View}
use Rattle.limits.specs.Limits.{numbers_of}
use Rattle.tables.specs.declared.Counts.{Counts}
use Rattle.tables.specs.Run.{Run}
use Rattle.tables.specs.Table.{entry}

-- the run with these numbers and these tables
abbrev pub run_of : Counts → (stored logged fenced opened closed written dirtied backed : List ℕ) → Run
run_of counts stored logged fenced opened closed written dirtied backed =
    record {
      counts = counts;
      stored = stored;
      logged = logged;
      fenced = fenced;
      opened = opened;
      closed = closed;
      written = written;
      dirtied = dirtied;
      backed = backed;
    }

-- no event yet
abbrev pub no_counts : ℕ → Counts
no_counts lines = record { lines = lines; events = 0; fences = 0; findings = 0; depth = 0; begin = 0; store = 0; fence = 0 }

-- the run in which nothing has happened, with so many entries for the opening and the closing epochs and the first write-backs
abbrev pub fresh_run_of : (opened closed written lines : ℕ) → Run
fresh_run_of opened closed written lines =
    run_of (no_counts lines) (replicate 4096 0) (replicate 4096 0) (replicate 4096 0) (replicate opened 0) (replicate closed 0)
    (replicate written 0) (replicate 64 0) (replicate 64 0)

-- with so many for each of the three
abbrev pub fresh_run : (entries lines : ℕ) → Run
fresh_run entries lines = fresh_run_of entries entries entries lines

-- the window's lines, at most those of the largest window: so no run leads past the end of a table
abbrev pub lines_of : Counts → ℕ
lines_of counts = min counts.lines most_lines

-- the latest outermost begin after a begin with this number: it, where no transaction was open
abbrev pub begin_after : (depth begin number : ℕ) → ℕ
begin_after depth begin number = cond (eqb depth 0) number begin

-- the latest store of some byte after a store with this number: it, where the range has a byte
abbrev pub store_after : Range → (store number : ℕ) → ℕ
store_after a store number = cond (stores_some (Store a)) number store

-- what the limits on an event ask of a run
abbrev pub limits_of : Counts → View
limits_of counts = numbers_of (lines_of counts) counts.events counts.depth

-- an event that an entry of a byte names counts unless it is older than the byte's last store
abbrev pub since_store : (store event : ℕ) → ℕ
since_store store event = cond (ltb event store) 0 event

-- a byte's interval from its last store, its closing fence, its opening and its closing epoch: none without a store, open without a fence
abbrev pub interval_from : (store fenced opened closed : ℕ) → Interval
interval_from store fenced opened closed = if_some store None (λ s. if_some (since_store s fenced) (Open opened) (λ f. Closed opened closed))

-- the same with its events, the first write-back after the last store among them
abbrev pub named_from : (store fenced opened closed written : ℕ) → NamedInterval
named_from store fenced opened closed written =
    if_some store NoneNamed (λ s.
    if_some (since_store s fenced) (OpenNamed opened s (since_store s written)) (λ f.
    ClosedNamed opened closed s (since_store s written) f))

-- a byte's interval by the tables of a run
abbrev pub interval_in : (stored fenced opened closed : List ℕ) → ℕ → Interval
interval_in stored fenced opened closed b = interval_from (entry stored b) (entry fenced b) (entry opened b) (entry closed b)

abbrev pub named_in : Run → ℕ → NamedInterval
named_in run b = named_from (entry run.stored b) (entry run.fenced b) (entry run.opened b) (entry run.closed b) (entry run.written b)

-- a line may have an open byte: it was stored to since its last write-back, or written back since the last fence
abbrev pub line_open : (fence dirtied backed : ℕ) → Bool
line_open fence dirtied backed = leb backed dirtied || leb fence backed

-- by the tables of a run
abbrev pub open_line : (fence : ℕ) → (dirtied backed : List ℕ) → ℕ → Bool
open_line fence dirtied backed l = line_open fence (entry dirtied l) (entry backed l)

-- the answers of a run; whether a byte was stored to since the begin is asked of its line first, and then of the byte, and so is whether
-- its interval is open: its closing fence is older than its last store
abbrev pub of_run : Run → View
of_run run =
    record {
      lines = lines_of run.counts;
      events = run.counts.events;
      depth = run.counts.depth;
      begin = run.counts.begin;
      latest_store = run.counts.store;
      last_store = entry run.stored;
      last_log = entry run.logged;
      stored_since = λ b. ltb run.counts.begin (entry run.dirtied (line_of b)) && ltb run.counts.begin (entry run.stored b);
      risk = λ b. open_line run.counts.fence run.dirtied run.backed (line_of b) && ltb (entry run.fenced b) (entry run.stored b);
      closing = λ b. since_store (entry run.stored b) (entry run.fenced b);
      line_store = entry run.dirtied;
      line_back = entry run.backed;
    }
