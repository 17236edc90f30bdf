-- The records of a trace: the bytes from the offset up to the trailer, 12 to a record.
use Rattle.std.specs.Prelude.{List, [], ◌∷◌, ℕ, zero, suc, ◌-◌, length, take, drop, Ok, Err}
use Rattle.event.specs.declared.Record.{Record}
use Rattle.event.specs.Answers.{Parsed}
use Rattle.records.specs.Record.{record_size, parsed}
use Rattle.trailer.specs.Trailer.{trailer_size, trailer_of}

-- the bytes from the offset up to the trailer; what precedes the offset is free
abbrev pub record_part : ℕ → List ℕ → List ℕ
record_part offset s = take (length s - trailer_size - offset) (drop offset s)

-- so many records, each read from its 12 bytes
unfoldable pub records_of : ℕ → List ℕ → List Parsed
records_of zero s = []
records_of (suc n) s = parsed (take record_size s) ∷ records_of n (drop record_size s)

-- the events of those that can be read, each with its site
unfoldable pub events_of : List Parsed → List Record
events_of [] = []
events_of (Ok r ∷ rest) = r ∷ events_of rest
events_of (Err x ∷ rest) = events_of rest

-- the lines of a trace's window, its records, and their events
abbrev pub lines_in : List ℕ → ℕ
lines_in s = (trailer_of s).lines

abbrev pub records_in : List ℕ → List Parsed
records_in s = records_of (trailer_of s).count (record_part (trailer_of s).offset s)

abbrev pub events_in : List ℕ → List Record
events_in s = events_of (records_in s)
