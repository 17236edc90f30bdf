-- A trace as its parts lie: free bytes, the records, the trailer. These bytes the writer writes; that exactly they are read as these
-- events says what the definitions of the reader mean.
use Rattle.std.specs.Prelude.{List, [], ◌∷◌, ◌++◌, ℕ, length}
use Rattle.event.specs.declared.Record.{Record}
use Rattle.records.specs.Record.{record_bytes}
use Rattle.trailer.specs.Trailer.{trailer_with}

-- the records of events, one after another
unfoldable pub records_bytes : List Record → List ℕ
records_bytes [] = []
records_bytes (r ∷ rest) = record_bytes r.event r.site ++ records_bytes rest

-- free bytes, the records of events in a window of so many lines, and the trailer that points back to them
abbrev pub trace_bytes : (free : List ℕ) → List Record → (lines : ℕ) → List ℕ
trace_bytes free events lines = free ++ records_bytes events ++ trailer_with (length free) (length events) lines
