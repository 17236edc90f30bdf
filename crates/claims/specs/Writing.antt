-- Calls on a writer one after another, in any order, after a start that was accepted. Nobody else writes the area, so each call finds
-- it as the one before left it. What is accepted is read off the list of calls, by the area's length, the preamble's and the lines; no
-- writer is asked.
use Rattle.std.specs.Prelude.{List, [], ◌∷◌, ℕ, ◌+◌, ◌*◌, length, Ok, Err}
use Rattle.event.specs.declared.Record.{Record}
use Rattle.event.specs.declared.Refusal.{Refusal}
use Rattle.event.specs.Answers.{Check}
use Rattle.event.specs.Numbers.{number_of}
use Rattle.event.specs.Reply.{Reply}
use Rattle.records.specs.Record.{record_size, record_of}
use Rattle.history.specs.History.{History}
use Rattle.history.specs.Transaction.{depth}
use Rattle.history.specs.View.{of_history}
use Rattle.history.specs.Refused.{Limit, First, NoneBroken, first_broken}
use Rattle.trailer.specs.Trailer.{trailer_size}
use Rattle.file.specs.declared.Writer.{Writer}
use Rattle.file.specs.Limits.{write_limits, bytes_limits, close_limits}
use Rattle.file.specs.Write.{writer_with, area_started, written_of, area_written, bytes_written_of, area_bytes_written, closed_of, area_closed}
use Rattle.file.specs.Reply.{written_reply, closed_reply}

-- an event, an event that comes as the bytes of a record, and a closing
pub data WriterCall : Type 0 where
  writes : Record → WriterCall
  writes_bytes : List ℕ → WriterCall
  closes : WriterCall

-- a file that is being written: what the next call gets
pub record Writing : Type 0 where
  pub area : List ℕ
  pub writer : Writer

abbrev pub writing : List ℕ → Writer → Writing
writing area writer = record { area = area; writer = writer }

-- after an accepted start
abbrev pub started : (area preamble : List ℕ) (lines : ℕ) → Writing
started area preamble lines = writing (area_started area preamble lines) (writer_with lines (length preamble) 0 0)

-- what a call answers, and what it leaves; a closing hands no writer back
abbrev pub call_reply : Writing → WriterCall → Reply
call_reply f (WriterCall.writes r) = written_reply (written_of f.area f.writer r)
call_reply f (WriterCall.writes_bytes s) = written_reply (bytes_written_of f.area f.writer s)
call_reply f WriterCall.closes = closed_reply (closed_of f.area f.writer)

abbrev pub writing_next : Writing → WriterCall → Writing
writing_next f (WriterCall.writes r) = writing (area_written f.area f.writer r) (written_of f.area f.writer r).writer
writing_next f (WriterCall.writes_bytes s) = writing (area_bytes_written f.area f.writer s) (bytes_written_of f.area f.writer s).writer
writing_next f WriterCall.closes = writing (area_closed f.area f.writer) f.writer

unfoldable pub writing_after : Writing → List WriterCall → Writing
writing_after f [] = f
writing_after f (c ∷ calls) = writing_after (writing_next f c) calls

unfoldable pub call_replies : Writing → List WriterCall → List Reply
call_replies f [] = []
call_replies f (c ∷ calls) = call_reply f c ∷ call_replies (writing_next f c) calls

-- behind the records of the accepted events
abbrev pub place_after : (preamble : ℕ) → History → ℕ
place_after preamble h = preamble + record_size * length h

-- the limits on a call, by the accepted events alone
abbrev pub call_limits : (room preamble lines : ℕ) → History → WriterCall → List Limit
call_limits room preamble lines h (WriterCall.writes r) = write_limits room (place_after preamble h) (of_history lines h) r.event
call_limits room preamble lines h (WriterCall.writes_bytes s) = bytes_limits room (place_after preamble h) (of_history lines h) s
call_limits room preamble lines h WriterCall.closes = close_limits room (place_after preamble h) (depth h)

-- the bytes that a call lays down where no number applies
abbrev pub call_size : WriterCall → ℕ
call_size (WriterCall.writes r) = record_size
call_size (WriterCall.writes_bytes s) = record_size
call_size WriterCall.closes = trailer_size

-- what it then answers: a closing the file's length, an event nothing
abbrev pub call_values : (preamble : ℕ) → History → WriterCall → List ℕ
call_values preamble h (WriterCall.writes r) = []
call_values preamble h (WriterCall.writes_bytes s) = []
call_values preamble h WriterCall.closes = (place_after preamble h + trailer_size) ∷ []

-- and the accepted events, which an event joins
abbrev pub history_after : WriterCall → History → History
history_after (WriterCall.writes r) h = r ∷ h
history_after (WriterCall.writes_bytes s) h = record_of s ∷ h
history_after WriterCall.closes h = h

-- a refused call leaves them as they were
abbrev pub unless_refused : Check → (next h : History) → History
unless_refused (Ok _) next h = next
unless_refused (Err x) next h = h

-- the accepted events after the calls, the newest first
unfoldable pub written_by : (room preamble lines : ℕ) → History → List WriterCall → History
written_by room preamble lines h [] = h
written_by room preamble lines h (c ∷ calls) =
    written_by room preamble lines (unless_refused (first_broken (call_limits room preamble lines h c)) (history_after c h) h) calls

-- the claim over the whole list of calls and their answers: each is refused by the first number that applies, and the accepted events are
-- as they were; or no number applies
pub data WriterRun (room preamble lines : ℕ) : History → List WriterCall → List Reply → Type 0 where
  done : {h : History} → WriterRun room preamble lines h [] []
  refuses : {h : History} {c : WriterCall} {calls : List WriterCall} {x : Refusal} {rest : List Reply} →
      First (call_limits room preamble lines h c) x →
      WriterRun room preamble lines h calls rest → WriterRun room preamble lines h (c ∷ calls) (Reply.refused (number_of x) 0 ∷ rest)
  takes : {h : History} {c : WriterCall} {calls : List WriterCall} {rest : List Reply} →
      NoneBroken (call_limits room preamble lines h c) →
      WriterRun room preamble lines (history_after c h) calls rest →
      WriterRun room preamble lines h (c ∷ calls) (Reply.values (call_values preamble h c) ∷ rest)
