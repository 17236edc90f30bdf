-- An event given to a run where nobody asks for findings. What only findings go by or count stays as it was: the undo log, and the count of
-- findings.
use Rattle.std.specs.Prelude.{Ok, Err}
use Rattle.event.specs.declared.Event.{Event}
use Rattle.event.specs.declared.Record.{Record}
use Rattle.event.specs.declared.Finding.TheVariants.{None}
use Rattle.event.specs.Answers.{Check}
use Rattle.history.specs.Refused.{refusal_by}
use Rattle.tables.specs.Run.{Run}
use Rattle.tables.specs.View.{run_of, of_run}
use Rattle.events.specs.Next.{counts_after, tables_after}

-- its refusal, or none, and the run to go on with
pub record Followed : Type 0 where
  pub check : Check
  pub run : Run

-- the run after an accepted event, but for the undo log and the count of findings
abbrev pub next_followed : Run → Event → Run
next_followed run e =
    let next = tables_after run e in
    run_of (counts_after run.counts e None) next.stored run.logged next.fenced next.opened next.closed next.written next.dirtied
    next.backed

-- refused, and the run as it was; or the next run
abbrev pub followed_for : Check → Run → Event → Followed
followed_for (Ok _) run e = record { check = Ok tt; run = next_followed run e }
followed_for (Err x) run e = record { check = Err x; run = run }

unfoldable pub follow_of : Run → Record → Followed
follow_of run r = followed_for (refusal_by (of_run run) r.event) run r.event
