-- The calls of a writer, for every area and every writer whatever: the answer, the writer to go on with, and the area. A refused call
-- changes nothing; an accepted one lays its bytes down, and every other byte of the area stays.
use Rattle.std.specs.Prelude.{true, List, [], ◌∷◌, ℕ, suc, ◌+◌, ◌*◌, length, Ok, Err}
use Rattle.event.specs.declared.Event.{Event}
use Rattle.event.specs.declared.Event.TheVariants.{Fence}
use Rattle.event.specs.declared.Record.{Record}
use Rattle.event.specs.declared.Refusal.{Refusal}
use Rattle.event.specs.Answers.{Check, Parsed}
use Rattle.codec.specs.Placed.{laid}
use Rattle.records.specs.Record.{record_size, record_of, record_bytes}
use Rattle.history.specs.Transaction.{depth_after}
use Rattle.history.specs.View.{View}
use Rattle.history.specs.Refused.{limit, first_broken}
use Rattle.limits.specs.Limits.{numbers_of}
use Rattle.trailer.specs.Trailer.{trailer_size, trailer_with}
use Rattle.file.specs.declared.Writer.{Writer}
use Rattle.file.specs.Answers.{Started, Written, Closed}
use Rattle.file.specs.Limits.{length_limit, start_limits, write_limits, bytes_limits, close_limits}

abbrev pub writer_with : (lines offset count depth : ℕ) → Writer
writer_with lines offset count depth = record { lines = lines; offset = offset; count = count; depth = depth }

-- behind the last record: where the next record and the trailer go
abbrev pub records_end : Writer → ℕ
records_end w = w.offset + record_size * w.count

-- the numbers that an event's own limits ask for
abbrev pub view_of : Writer → View
view_of w = numbers_of w.lines w.count w.depth

-- the area with these bytes at a place, where the check passes
abbrev pub area_for : Check → (at : ℕ) → (bytes area : List ℕ) → List ℕ
area_for (Ok _) at bytes area = laid at bytes area
area_for (Err x) at bytes area = area

-- a start: the preamble goes to the area's start
abbrev pub start_check : (area preamble : List ℕ) (lines : ℕ) → Check
start_check area preamble lines = first_broken (start_limits (length area) (length preamble) lines)

abbrev pub started_for : Check → Writer → Started
started_for (Ok _) w = Ok w
started_for (Err x) w = Err x

abbrev pub started_of : (area preamble : List ℕ) (lines : ℕ) → Started
started_of area preamble lines = started_for (start_check area preamble lines) (writer_with lines (length preamble) 0 0)

abbrev pub area_started : (area preamble : List ℕ) (lines : ℕ) → List ℕ
area_started area preamble lines = area_for (start_check area preamble lines) 0 preamble area

-- the writer after an event
abbrev pub writer_after : Writer → Event → Writer
writer_after w e = writer_with w.lines w.offset (suc w.count) (depth_after e w.depth)

abbrev pub written_for : Check → Writer → Event → Written
written_for (Ok _) w e = record { check = (Ok tt); writer = writer_after w e }
written_for (Err x) w e = record { check = Err x; writer = w }

-- its record goes behind the last one
abbrev pub record_laid : Check → Writer → Record → (area : List ℕ) → List ℕ
record_laid c w r area = area_for c (records_end w) (record_bytes r.event r.site) area

-- an event
abbrev pub write_check : (room : ℕ) → Writer → Event → Check
write_check room w e = first_broken (write_limits room (records_end w) (view_of w) e)

abbrev pub written_of : (area : List ℕ) → Writer → Record → Written
written_of area w r = written_for (write_check (length area) w r.event) w r.event

abbrev pub area_written : (area : List ℕ) → Writer → Record → List ℕ
area_written area w r = record_laid (write_check (length area) w r.event) w r area

-- an event as it was read: one that cannot be read is refused by 2 where it applies, else by the number that reading gave
abbrev pub unread_check : Writer → Refusal → Check
unread_check w x = first_broken (length_limit (records_end w + record_size) ∷ limit true x ∷ [])

abbrev pub parsed_written_of : (area : List ℕ) → Writer → Parsed → Written
parsed_written_of area w (Ok r) = written_of area w r
parsed_written_of area w (Err x) = written_for (unread_check w x) w Fence

abbrev pub area_parsed_written : (area : List ℕ) → Writer → Parsed → List ℕ
area_parsed_written area w (Ok r) = area_written area w r
area_parsed_written area w (Err x) = area

-- the same for an event that comes as the bytes of a record
abbrev pub bytes_check : (room : ℕ) → Writer → List ℕ → Check
bytes_check room w s = first_broken (bytes_limits room (records_end w) (view_of w) s)

abbrev pub bytes_written_of : (area : List ℕ) → Writer → List ℕ → Written
bytes_written_of area w s = written_for (bytes_check (length area) w s) w (record_of s).event

abbrev pub area_bytes_written : (area : List ℕ) → Writer → List ℕ → List ℕ
area_bytes_written area w s = record_laid (bytes_check (length area) w s) w (record_of s) area

-- a closing: the trailer goes behind the last record, and the file ends with it
abbrev pub close_check : (room : ℕ) → Writer → Check
close_check room w = first_broken (close_limits room (records_end w) w.depth)

abbrev pub closed_for : Check → ℕ → Closed
closed_for (Ok _) length = Ok length
closed_for (Err x) length = Err x

abbrev pub closed_of : (area : List ℕ) → Writer → Closed
closed_of area w = closed_for (close_check (length area) w) (records_end w + trailer_size)

abbrev pub area_closed : (area : List ℕ) → Writer → List ℕ
area_closed area w = area_for (close_check (length area) w) (records_end w) (trailer_with w.offset w.count w.lines) area
