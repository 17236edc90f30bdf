-- Request 1: traces that a writer wrote. Over every area, preamble and line count that a start accepts, and every list of calls in any
-- order: events, as records or as the bytes of records, and closings, refused ones among them.
use Rattle.std.specs.Prelude.{◌≡◌, ◌⊎◌, List, [], ◌∷◌, ◌++◌, map, reverse, ℕ, suc, ◌+◌, ◌*◌, ◌≤◌, ◌<◌, length, take, get_or, Ok}
use Rattle.event.specs.declared.Record.{Record}
use Rattle.event.specs.declared.Refusal.{Refusal}
use Rattle.event.specs.Numbers.{number_of}
use Rattle.event.specs.Reply.{Reply}
use Rattle.codec.specs.Codec.{finding_size}
use Rattle.records.specs.Record.{record_size, record_of}
use Rattle.history.specs.History.{History}
use Rattle.history.specs.Transaction.{depth}
use Rattle.history.specs.Refused.{NoneBroken}
use Rattle.history.specs.Given.{RefusedBy}
use Rattle.trailer.specs.Trailer.{trailer_size, most_bytes, trailer_of}
use Rattle.trace.specs.Records.{lines_in, records_in, events_in}
use Rattle.trace.specs.Checked.{read_limits}
use Rattle.trace.specs.Layout.{records_bytes, trace_bytes}
use Rattle.verdict.specs.Verdict.{verdict_of, verdict_reply}
use Rattle.file.specs.declared.Writer.{Writer}
use Rattle.file.specs.Limits.{start_limits}
use Rattle.file.specs.Write.{writer_with, written_of, area_written, bytes_written_of, area_bytes_written}
use Rattle.claims.specs.Traces.{Rejected}
use Rattle.claims.specs.Writing.{WriterCall, Writing, started, call_reply, writing_next, writing_after, call_replies, place_after, call_size, written_by, WriterRun}

-- an accepted closing: its answer is the file's length
abbrev pub Closes : Writing → ℕ → Type 0
Closes f size = call_reply f WriterCall.closes ≡ Reply.values (size ∷ [])

-- the judge accepts the trace with every findings area that has room
abbrev pub Judged : (trace : List ℕ) → (count : ℕ) → Type 0
Judged trace count = (found : List ℕ) → finding_size * count ≤ length found →
    (totals : List ℕ) × (verdict_reply (verdict_of trace found) ≡ Reply.values totals)

-- reading the trace back yields these events in this order, the lines, and the preamble untouched
pub record ReadsBack (trace preamble : List ℕ) (written : List Record) (lines : ℕ) : Type 0 where
  pub records : records_in trace ≡ map Ok written
  pub events : events_in trace ≡ written
  pub window : lines_in trace ≡ lines
  pub front : take (trailer_of trace).offset trace ≡ preamble

-- after the calls, of which the events of h were accepted, the newest first, f is what the next call gets
pub record AfterCalls (room : ℕ) (preamble : List ℕ) (lines : ℕ) (h : History) (f : Writing) : Type 0 where
  -- the writer's numbers, and the preamble with the accepted events' records at the area's start
  pub writer : f.writer ≡ writer_with lines (length preamble) (length h) (depth h)
  pub front : take (place_after (length preamble) h) f.area ≡ preamble ++ records_bytes (reverse h)
  -- after an accepted closing the first bytes, as many as it says, are the trace; the judge accepts it, and it reads back
  pub file : (size : ℕ) → Closes f size → take size (writing_next f WriterCall.closes).area ≡ trace_bytes preamble (reverse h) lines
  pub judged : (size : ℕ) → Closes f size → Judged (trace_bytes preamble (reverse h) lines) (length h)
  pub reads_back : ReadsBack (trace_bytes preamble (reverse h) lines) preamble (reverse h) lines
  -- an event that the judge would refuse at that place, in a file that is not too long, is refused with the same number
  pub as_judged : (r : Record) {x : Refusal} → RefusedBy lines h r x → place_after (length preamble) h + record_size + trailer_size ≤ most_bytes →
      (call_reply f (WriterCall.writes r) ≡ Reply.refused (number_of x) 0) ×
      ((found : List ℕ) → finding_size * suc (length h) ≤ length found →
      verdict_reply (verdict_of (trace_bytes preamble (reverse (r ∷ h)) lines) found) ≡ Reply.refused (number_of x) (suc (length h)))
  -- a refused call writes nothing and leaves the writer as it was
  pub refused : (c : WriterCall) (number at : ℕ) → call_reply f c ≡ Reply.refused number at → writing_next f c ≡ f
  -- a call lays its bytes behind the records, and every other byte of the area stays
  pub others : (c : WriterCall) (i : ℕ) → (i < place_after (length preamble) h) ⊎ (place_after (length preamble) h + call_size c ≤ i) →
      get_or (writing_next f c).area i 0 ≡ get_or f.area i 0
  pub size : (c : WriterCall) → length (writing_next f c).area ≡ room
  -- a closing leaves the writer as it was, so an event given afterwards takes the trailer's place; the file needs closing again, since
  -- the judge refuses the bytes that it had by 3
  pub closing : (writing_next f WriterCall.closes).writer ≡ f.writer
  pub after_closing : (r : Record) (size : ℕ) → let g = writing_next f WriterCall.closes in
      Closes f size → call_reply g (WriterCall.writes r) ≡ Reply.values [] →
      (found : List ℕ) → Rejected (take size (writing_next g (WriterCall.writes r)).area) found 3 0

pub record TracesWritten : Type 0 where
  -- the answers are those of the limits over the accepted events alone, and no others are
  pub answers : (area preamble : List ℕ) (lines : ℕ) (calls : List WriterCall) → NoneBroken (start_limits (length area) (length preamble) lines) →
      WriterRun (length area) (length preamble) lines [] calls (call_replies (started area preamble lines) calls)
  pub only : (area preamble : List ℕ) (lines : ℕ) (calls : List WriterCall) (others : List Reply) →
      NoneBroken (start_limits (length area) (length preamble) lines) →
      WriterRun (length area) (length preamble) lines [] calls others → others ≡ call_replies (started area preamble lines) calls
  -- the writer, the area, and what the next call does
  pub after : (area preamble : List ℕ) (lines : ℕ) (calls : List WriterCall) → NoneBroken (start_limits (length area) (length preamble) lines) →
      AfterCalls (length area) preamble lines (written_by (length area) (length preamble) lines [] calls)
      (writing_after (started area preamble lines) calls)
  -- an event that comes as bytes which neither 6 nor 7 refuses is written as the record in them is
  pub from_bytes : (area : List ℕ) (w : Writer) (s : List ℕ) → NoneBroken (read_limits s) →
      (bytes_written_of area w s ≡ written_of area w (record_of s)) × (area_bytes_written area w s ≡ area_written area w (record_of s))
