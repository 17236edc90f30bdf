-- A writer's calls, whatever the writer: by the first number that applies, or by none.
use Rattle.std.specs.Prelude.{Ok, Err}
use mathlib.Core.Path.{◌≡◌, sym, ap, ◌∙◌}
use mathlib.Core.List.{List, [], ◌∷◌, ◌++◌}
use Prim.Native.Nat.{ℕ, ◌+◌}
use native.Mathlib.Nat.{zero-add}
use lib.ListN.{length, drop}
use Rattle.event.specs.declared.Event.{Event}
use Rattle.event.specs.declared.Record.{Record}
use Rattle.event.specs.declared.Refusal.{Refusal}
use Rattle.event.specs.Answers.{Check}
use Rattle.event.specs.Numbers.{number_of}
use Rattle.event.specs.Reply.{Reply}
use Rattle.records.specs.Record.{record_of, record_bytes}
use Rattle.history.specs.Refused.{First, NoneBroken}
use Rattle.history.proofs.Given.{first_broken_lem, none_broken}
use Rattle.trailer.specs.Trailer.{trailer_size, trailer_with}
use Rattle.trace.specs.Checked.{read_limits}
use Rattle.file.specs.declared.Writer.{Writer}
use Rattle.file.specs.Limits.{start_limits, write_limits, bytes_limits, close_limits}
use Rattle.file.specs.Write.{writer_with, records_end, view_of, area_for, started_for, started_of, area_started, written_for, written_of, area_written, bytes_written_of, area_bytes_written, closed_for, closed_of, area_closed}
use Rattle.file.specs.Reply.{start_reply, written_reply, closed_reply}
use Rattle.file.proofs.Outcomes.{bytes_read, area_read}
use Rattle.claims.proofs.Records.{read_taken_lem}

-- a start
module _ (area preamble : List ℕ) (lines : ℕ) where
  pub start_refused_lem : {x : Refusal} → First (start_limits (length area) (length preamble) lines) x →
      (start_reply (started_of area preamble lines) ≡ Reply.refused (number_of x) 0) × (area_started area preamble lines ≡ area)
  start_refused_lem k = (
    ap (λ (c : Check). start_reply (started_for c (writer_with lines (length preamble) 0 0))) (first_broken_lem k),
    ap (λ (c : Check). area_for c 0 preamble area) (first_broken_lem k),
  )

  pub start_taken_lem : NoneBroken (start_limits (length area) (length preamble) lines) →
      (started_of area preamble lines ≡ Ok (writer_with lines (length preamble) 0 0)) ×
      (area_started area preamble lines ≡ preamble ++ drop (length preamble) area)
  start_taken_lem k = (
    ap (λ (c : Check). started_for c (writer_with lines (length preamble) 0 0)) (none_broken k),
    ap (λ (c : Check). area_for c 0 preamble area) (none_broken k) ∙ (rw (zero-add (length preamble))),
  )

-- an event, by what its check says: a refused one leaves writer and area as they were
module _ (area : List ℕ) (w : Writer) (e : Event) (bytes : List ℕ) {c : Check} where
  by_number : {x : Refusal} → c ≡ Err x →
      (written_reply (written_for c w e) ≡ Reply.refused (number_of x) 0) × ((written_for c w e).writer ≡ w) × (area_for c (records_end w) bytes area ≡ area)
  by_number k = (
    ap (λ (d : Check). written_reply (written_for d w e)) k,
    ap (λ (d : Check). (written_for d w e).writer) k,
    ap (λ (d : Check). area_for d (records_end w) bytes area) k,
  )

  by_none : c ≡ (Ok tt) → written_reply (written_for c w e) ≡ Reply.values []
  by_none k = ap (λ (d : Check). written_reply (written_for d w e)) k

module _ (area : List ℕ) (w : Writer) where
  pub write_refused_lem : (r : Record) {x : Refusal} → First (write_limits (length area) (records_end w) (view_of w) r.event) x →
      (written_reply (written_of area w r) ≡ Reply.refused (number_of x) 0) × ((written_of area w r).writer ≡ w) × (area_written area w r ≡ area)
  write_refused_lem r k = by_number area w r.event (record_bytes r.event r.site) (first_broken_lem k)

  pub write_taken_lem : (r : Record) → NoneBroken (write_limits (length area) (records_end w) (view_of w) r.event) →
      written_reply (written_of area w r) ≡ Reply.values []
  write_taken_lem r k = by_none area w r.event (record_bytes r.event r.site) (none_broken k)

  pub bytes_refused_lem : (s : List ℕ) {x : Refusal} → First (bytes_limits (length area) (records_end w) (view_of w) s) x →
      (written_reply (bytes_written_of area w s) ≡ Reply.refused (number_of x) 0) × ((bytes_written_of area w s).writer ≡ w) ×
      (area_bytes_written area w s ≡ area)
  bytes_refused_lem s k = by_number area w (record_of s).event (record_bytes (record_of s).event (record_of s).site) (first_broken_lem k)

  pub bytes_taken_lem : (s : List ℕ) → NoneBroken (bytes_limits (length area) (records_end w) (view_of w) s) →
      written_reply (bytes_written_of area w s) ≡ Reply.values []
  bytes_taken_lem s k = by_none area w (record_of s).event (record_bytes (record_of s).event (record_of s).site) (none_broken k)

  -- bytes that can be read are written as the record in them is
  pub from_bytes_lem : (s : List ℕ) → NoneBroken (read_limits s) →
      (bytes_written_of area w s ≡ written_of area w (record_of s)) × (area_bytes_written area w s ≡ area_written area w (record_of s))
  from_bytes_lem s k = (sym (bytes_read area w s (read_taken_lem s k) (λ i. written_of area w (record_of s))), sym (area_read area w s (read_taken_lem s k) (λ i. area_written area w (record_of s))))

  -- a closing
  pub file_refused_lem : {x : Refusal} → First (close_limits (length area) (records_end w) w.depth) x →
      (closed_reply (closed_of area w) ≡ Reply.refused (number_of x) 0) × (area_closed area w ≡ area)
  file_refused_lem k = (
    ap (λ (c : Check). closed_reply (closed_for c (records_end w + trailer_size))) (first_broken_lem k),
    ap (λ (c : Check). area_for c (records_end w) (trailer_with w.offset w.count w.lines) area) (first_broken_lem k),
  )

  pub file_taken_lem : NoneBroken (close_limits (length area) (records_end w) w.depth) →
      closed_reply (closed_of area w) ≡ Reply.values ((records_end w + trailer_size) ∷ [])
  file_taken_lem k = ap (λ (c : Check). closed_reply (closed_for c (records_end w + trailer_size))) (none_broken k)
