-- Calls on a run one after another, bytes asked, closings and mean exposures between the events. These hand no run back, so the caller
-- goes on with the one that it has.
use Rattle.std.specs.Prelude.{List, [], ◌∷◌, ℕ}
use Rattle.event.specs.declared.Record.{Record}
use Rattle.tables.specs.Run.{Run}
use Rattle.events.specs.Give.{give_of}

pub data Call : Type 0 where
  gives : Record → Call
  asks : (byte : ℕ) → Call
  closes : Call
  exposes : Call

-- the run that the next call gets
abbrev pub run_next : Run → Call → Run
run_next run (Call.gives r) = (give_of run r).run
run_next run (Call.asks byte) = run
run_next run Call.closes = run
run_next run Call.exposes = run

unfoldable pub run_called : Run → List Call → Run
run_called run [] = run
run_called run (c ∷ calls) = run_called (run_next run c) calls

-- the events among them
unfoldable pub events_among : List Call → List Record
events_among [] = []
events_among (Call.gives r ∷ calls) = r ∷ events_among calls
events_among (Call.asks byte ∷ calls) = events_among calls
events_among (Call.closes ∷ calls) = events_among calls
events_among (Call.exposes ∷ calls) = events_among calls
