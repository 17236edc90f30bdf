-- One record given to a run, and its finding put into a buffer.
use Rattle.std.specs.Prelude.{List, ℕ, Ok, Err}
use Rattle.event.specs.Answers.{Answer, Parsed}
use Rattle.codec.specs.Codec.{finding_bytes}
use Rattle.codec.specs.Placed.{placed}
use Rattle.tables.specs.Run.{Run}
use Rattle.events.specs.Give.{give_of}

-- the buffer with an event's finding at a place
abbrev pub placed_for : Answer → (site at : ℕ) → List ℕ → List ℕ
placed_for (Ok f) site at buffer = placed at (finding_bytes f site) buffer
placed_for (Err x) site at buffer = buffer

-- a run and a buffer
pub record Stage : Type 0 where
  pub run : Run
  pub buffer : List ℕ

abbrev pub stage : Run → List ℕ → Stage
stage run buffer = record { run = run; buffer = buffer }

-- what one record gets: 6 or 7 from its bytes, or what its event gets
abbrev pub record_answer : Parsed → Stage → Answer
record_answer (Ok r) s = (give_of s.run r).answer
record_answer (Err x) s = Err x

-- where it leads
abbrev pub record_given : Parsed → ℕ → Stage → Stage
record_given (Ok r) at s = stage (give_of s.run r).run (placed_for (give_of s.run r).answer r.site at s.buffer)
record_given (Err x) at s = s
