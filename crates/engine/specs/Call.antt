-- What each call answers and what run it hands over, for every run whatever.
use Rattle.std.specs.Prelude.{cond, ℕ, eqb, Ok, Err}
use Rattle.event.specs.declared.Refusal.TheVariants.{PastWindow, TransactionOpen}
use Rattle.window.specs.Window.{lines_check}
use Rattle.ranges.specs.Ranges.{is_past}
use Rattle.history.specs.Given.{window_of}
use Rattle.tables.specs.Run.{Run}
use Rattle.engine.specs.declared.Window.{Window}
use Rattle.engine.specs.Answers.{Asked, Closing}
use Rattle.tables.specs.View.{fresh_run, named_in, of_run}
use Rattle.event.specs.Answers.{totals}

-- no byte of the window has been stored to
unfoldable pub empty_run : ℕ → Run
empty_run lines = fresh_run 4096 lines

-- a fresh window: the check of the lines asked for, and the run; of one line where they are refused
abbrev pub fresh_of : ℕ → Window
fresh_of asked = record { check = lines_check asked; run = empty_run (window_of asked) }

-- a byte asked: 9 where it is past the window, else its interval with its events
abbrev pub ask_of : Run → ℕ → Asked
ask_of run byte =
    cond (is_past (of_run run).lines (record { address = byte; length = 1 })) (Err PastWindow) (Ok (named_in run byte))

-- a run closed: 13 where a transaction is open, else events, fences and findings other than none
abbrev pub close_of : Run → Closing
close_of run =
    cond (eqb run.counts.depth 0)
    (totals run.counts.events run.counts.fences run.counts.findings)
    (Err TransactionOpen)
