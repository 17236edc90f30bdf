-- Bytes asked, closings and mean exposures between the events change nothing.
use mathlib.Core.Path.{◌≡◌, refl}
use mathlib.Core.List.{List, [], ◌∷◌}
use Rattle.tables.specs.Run.{Run}
use Rattle.events.specs.Give.{give_of}
use Rattle.engine.specs.Given.{run_after}
use Rattle.claims.specs.Calls.{Call, run_called, events_among}

pub called_after : (run : Run) (calls : List Call) → run_called run calls ≡ run_after run (events_among calls)
unfolding run_called events_among run_after
called_after run [] = refl
called_after run (Call.gives r ∷ calls) = called_after (give_of run r).run calls
called_after run (Call.asks byte ∷ calls) = called_after run calls
called_after run (Call.closes ∷ calls) = called_after run calls
called_after run (Call.exposes ∷ calls) = called_after run calls
