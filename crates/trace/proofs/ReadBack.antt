-- A trace laid out as its parts is read as them.
use Rattle.std.specs.Prelude.{Ok}
use mathlib.Core.Path.{◌≡◌, refl, sym, ap, ◌∙◌}
use mathlib.Core.Bool.{false}
use mathlib.Core.List.{List, [], ◌∷◌, ◌++◌, map, append_assoc}
use Prim.Native.Nat.{ℕ, ◌+◌, ◌*◌, ◌≤◌}
use native.Mathlib.Omega.{arith}
use lib.ListN.{length, length-append}
use borrow.Author.Tests.{le-ltb, eq-eqb}
use Rattle.event.specs.declared.Record.{Record}
use Rattle.window.specs.Window.{bad_lines}
use Rattle.records.specs.Record.{record_size, record_bytes}
use Rattle.records.proofs.RoundTrip.{read_back}
use Rattle.trailer.specs.declared.Trailer.{Trailer}
use Rattle.trailer.specs.Trailer.{trailer_size, most_bytes, trailer_bytes, trailer_from, trailer_of, trailer_with, same_bytes, opened_of}
use Rattle.trailer.proofs.Parts.{last_part, middle_part}
use Rattle.trailer.proofs.Written.{trailer, trailer_read_back}
use Rattle.trace.specs.Records.{record_part, records_of, events_of, lines_in, records_in, events_in}
use Rattle.trace.specs.Layout.{records_bytes, trace_bytes}

-- records have 12 bytes each
records_length : (events : List Record) → length (records_bytes events) ≡ record_size * length events
unfolding records_bytes
records_length [] = refl
records_length (r ∷ rest) = let e : length (records_bytes rest) ≡ record_size * length rest = records_length rest in omega arith

-- the records of events after others follow theirs
pub records_append : (events more : List Record) → records_bytes (events ++ more) ≡ records_bytes events ++ records_bytes more
unfolding records_bytes
records_append [] more = refl
records_append (r ∷ rest) more =
    ap (λ (l : List ℕ). record_bytes r.event r.site ++ l) (records_append rest more) ∙
    sym (append_assoc (record_bytes r.event r.site) (records_bytes rest) (records_bytes more))

-- the bytes of records are read back
records_read_back : (events : List Record) → records_of (length events) (records_bytes events) ≡ map Ok events
unfolding records_bytes records_of
records_read_back [] = refl
records_read_back (r ∷ rest) = λ i. read_back r.event r.site i ∷ records_read_back rest i

-- the events of records that can be read
events_of_records : (events : List Record) → events_of (map Ok events) ≡ events
unfolding events_of
events_of_records [] = refl
events_of_records (r ∷ rest) = ap (λ (l : List Record). r ∷ l) (events_of_records rest)

module _ (free : List ℕ) (events : List Record) (lines : ℕ) where
  -- the trace
  abbrev s : List ℕ
  s = trace_bytes free events lines

  -- it ends where its trailer says
  pub trace_length : length free + record_size * length events + trailer_size ≡ length s
  trace_length =
      simp (length-append (free ++ records_bytes events) (trailer_with (length free) (length events) lines), length-append free (records_bytes events))
      (omega (arith, records_length events))

  -- its last 16 bytes are those of its trailer
  trailer_bytes_lem : trailer_bytes s ≡ trailer_with (length free) (length events) lines
  trailer_bytes_lem = last_part (free ++ records_bytes events) (trailer_with (length free) (length events) lines)

  -- those from the offset up to them are those of its records
  record_part_lem : record_part (length free) s ≡ records_bytes events
  record_part_lem = middle_part free (records_bytes events) (trailer_with (length free) (length events) lines)

  -- the trailer is read: where the records start, how many there are, and the window's lines
  pub trailer_read : trailer_of s ≡ trailer (length free) (length events) lines
  unfolding trailer_of
  trailer_read = ap trailer_from trailer_bytes_lem ∙ trailer_read_back (length free) (length events) lines

  -- a trace of at most 65,536 bytes, of a window of 1 to 64 lines, is opened
  pub trace_known : bad_lines lines ≡ false → length s ≤ most_bytes → opened_of s ≡ Ok (trailer (length free) (length events) lines)
  unfolding opened_of same_bytes
  trace_known window few =
      rw (
        le-ltb (length s) trailer_size (omega (arith, trace_length)),
        le-ltb most_bytes (length s) few,
        trailer_bytes_lem,
        trailer_read,
        window,
        eq-eqb (length free + record_size * length events + trailer_size) (length s) trace_length,
      )

  -- its records, their events and its lines are read
  pub records_read : records_in s ≡ map Ok events
  records_read = rw (trailer_read, record_part_lem) (records_read_back events)

  pub events_read : events_in s ≡ events
  events_read = ap events_of records_read ∙ events_of_records events

  pub lines_read : lines_in s ≡ lines
  lines_read = ap (λ (t : Trailer). t.lines) trailer_read
