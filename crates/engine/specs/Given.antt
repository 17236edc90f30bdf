-- Events given one after another, each to the run that the one before it handed over.
use Rattle.std.specs.Prelude.{List, [], ◌∷◌}
use Rattle.event.specs.declared.Record.{Record}
use Rattle.event.specs.Answers.{Answer}
use Rattle.tables.specs.Run.{Run}
use Rattle.events.specs.Give.{give_of}

-- the run after them
unfoldable pub run_after : Run → List Record → Run
run_after run [] = run
run_after run (r ∷ given) = run_after (give_of run r).run given

-- the answers to them
unfoldable pub outcomes : Run → List Record → List Answer
outcomes run [] = []
outcomes run (r ∷ given) = (give_of run r).answer ∷ outcomes (give_of run r).run given
