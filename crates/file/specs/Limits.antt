-- What refuses a start, an event and a closing: the limits of each, in order. `room` is the area's length. An event's own limits ask for
-- the window's lines, the events taken and the transactions open, by a view; so they are the same for a writer and for the accepted
-- events.
use Rattle.std.specs.Prelude.{not, List, [], ◌∷◌, ◌++◌, ℕ, ◌+◌, eqb, ltb}
use Rattle.event.specs.declared.Event.{Event}
use Rattle.event.specs.declared.Refusal.TheVariants.{TraceTooLong, BadLines, TransactionOpen, FileAreaTooShort}
use Rattle.window.specs.Window.{bad_lines}
use Rattle.records.specs.Record.{record_size, record_of}
use Rattle.history.specs.View.{View}
use Rattle.history.specs.Refused.{Limit, limit, limits_by}
use Rattle.trailer.specs.Trailer.{trailer_size, most_bytes}
use Rattle.trace.specs.Checked.{read_limits}

-- 2: with its trailer behind this place, the file would have more than 65,536 bytes
abbrev pub length_limit : ℕ → Limit
length_limit end = limit (ltb most_bytes (end + trailer_size)) TraceTooLong

-- 15: the area is too short for bytes that end at this place
abbrev pub room_limit : (room end : ℕ) → Limit
room_limit room end = limit (ltb room end) FileAreaTooShort

-- a start with a preamble of so many bytes
abbrev pub start_limits : (room preamble lines : ℕ) → List Limit
start_limits room preamble lines =
    limit (bad_lines lines) BadLines ∷  -- 4 lines outside 1 to 64
    length_limit preamble ∷  -- 2
    room_limit room preamble ∷  -- 15
    []

-- an event whose record goes to a place
abbrev pub write_limits : (room at : ℕ) → View → Event → List Limit
write_limits room at v e =
    length_limit (at + record_size) ∷  -- 2
    limits_by v e ++  -- 9, 18, 10, 11, 12
    room_limit room (at + record_size) ∷  -- 15
    []

-- an event that comes as the bytes of a record
abbrev pub bytes_limits : (room at : ℕ) → View → List ℕ → List Limit
bytes_limits room at v s =
    length_limit (at + record_size) ∷  -- 2
    read_limits s ++  -- 6, 7
    limits_by v (record_of s).event ++  -- 9, 18, 10, 11, 12
    room_limit room (at + record_size) ∷  -- 15
    []

-- a closing with so many transactions open, whose trailer goes to a place
abbrev pub close_limits : (room at depth : ℕ) → List Limit
close_limits room at depth =
    limit (not (eqb depth 0)) TransactionOpen ∷  -- 13 a transaction is open
    room_limit room (at + trailer_size) ∷  -- 15
    []
