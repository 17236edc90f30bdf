-- The limits 9, 18 and 10 to 12 ask for three numbers of a run: the window's lines, the events taken and the transactions open.
use Rattle.std.specs.Prelude.{false, ℕ, drop}
use Rattle.event.specs.declared.Event.{Event}
use Rattle.event.specs.Answers.{Check}
use Rattle.history.specs.View.{View}
use Rattle.history.specs.Refused.{limits_by, first_broken}

-- the answers to a judge's questions that give these numbers, and nothing else
abbrev pub numbers_of : (lines events depth : ℕ) → View
numbers_of lines events depth =
    record {
      lines = lines;
      events = events;
      depth = depth;
      begin = 0;
      latest_store = 0;
      last_store = λ b. 0;
      last_log = λ b. 0;
      stored_since = λ b. false;
      risk = λ b. false;
      closing = λ b. 0;
      line_store = λ l. 0;
      line_back = λ l. 0;
    }

-- the limits that do not ask for an event's ranges: 10, 11 and 12
abbrev pub state_check : (events depth : ℕ) → Event → Check
state_check events depth e = first_broken (drop 2 (limits_by (numbers_of 0 events depth) e))
