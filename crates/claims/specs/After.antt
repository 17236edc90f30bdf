-- Events given one after another, refused ones among them, from the run of a fresh window: the one asked for, or the one-line run
-- that a refused fresh window hands over.
use Rattle.std.specs.Prelude.{List, [], map, ℕ}
use Rattle.event.specs.declared.Record.{Record}
use Rattle.event.specs.Answers.{Answer}
use Rattle.event.specs.Reply.{Reply, answer_reply}
use Rattle.history.specs.History.{History}
use Rattle.history.specs.Given.{window_of, accepted}
use Rattle.tables.specs.Run.{Run}
use Rattle.engine.specs.Call.{fresh_of}
use Rattle.engine.specs.Given.{run_after, outcomes}

-- the run after them
abbrev pub run_from : ℕ → List Record → Run
run_from asked given = run_after (fresh_of asked).run given

-- the accepted ones
abbrev pub taken_from : ℕ → List Record → History
taken_from asked given = accepted (window_of asked) [] given

-- the answers that the run gave
abbrev pub answers_from : ℕ → List Record → List Answer
answers_from asked given = outcomes (fresh_of asked).run given

-- and the same in the paper's numbers
abbrev pub replies_from : ℕ → List Record → List Reply
replies_from asked given = map answer_reply (answers_from asked given)
