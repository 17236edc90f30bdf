-- What the calls answer and leave, from what the calls beneath them ensure.
use mathlib.Core.Path.{◌≡◌, ap, ap₂, ◌∙◌}
use mathlib.Core.List.{List}
use Prim.Native.Nat.{ℕ, ◌%◌, ◌^◌, ◌<◌}
use native.Mathlib.Omega.{arith}
use Rattle.event.specs.declared.Range.{Range}
use Rattle.event.specs.Answers.{Parsed}
use Rattle.event.specs.Reply.{Reply}
use Rattle.records.specs.Record.{parsed, parsed_fields, fields_bytes}
use Rattle.records.proofs.RoundTrip.{fields_read}
use Rattle.file.specs.declared.Writer.{Writer}
use Rattle.file.specs.Write.{writer_with, parsed_written_of, area_parsed_written, bytes_written_of, area_bytes_written}
use Rattle.file.proofs.Outcomes.{bytes_parsed}
use Rattle.replies.specs.declared.Numbers.{Numbers}
use Rattle.replies.specs.Numbers.{numbers_of}
use Rattle.pmjudge_c.specs.Writer.{writer_numbers, writer_from}

-- the numbers given are those of the reply to what the call beneath answers
pub answered : {A : Type 0} (given : Numbers → List ℕ) (reply : A → Reply) {answer : List ℕ} {n : Numbers} {a b : A} → answer ≡ given n →
    n ≡ numbers_of (reply a) → a ≡ b → answer ≡ given (numbers_of (reply b))
answered {A} given reply x y z = x ∙ ap given (y ∙ ap (λ (a : A). numbers_of (reply a)) z)

-- an event: its fields are read as the bytes of its record are, and the writer is that of its numbers
module _ (area : List ℕ) {w v : Writer} (same : w ≡ v) (kind : ℕ) (a b : Range) (site : ℕ) {p : Parsed} (read : p ≡ parsed_fields kind 0 a b site) where
  abbrev bytes : List ℕ
  bytes = fields_bytes kind a b site

  from_bytes_lem : p ≡ parsed bytes
  from_bytes_lem = rw (fields_read kind a b site) read

  pub event_written : parsed_written_of area w p ≡ bytes_written_of area v bytes
  event_written = ap₂ (parsed_written_of area) same from_bytes_lem ∙ (bytes_parsed area v bytes).0

  pub event_area : {next : List ℕ} → next ≡ area_parsed_written area w p → next ≡ area_bytes_written area v bytes
  event_area e = e ∙ ap₂ (area_parsed_written area) same from_bytes_lem ∙ (bytes_parsed area v bytes).1

-- a writer that goes through its numbers is the one that was handed over: its fields have 16 bits
pub writer_kept : (w : Writer) → w.lines < 2 ^ 16 → w.depth < 2 ^ 16 → writer_from (writer_numbers w) ≡ w
writer_kept w k l =
    let lines : w.lines % 2 ^ 16 ≡ w.lines = omega arith in
    let depth : w.depth % 2 ^ 16 ≡ w.depth = omega arith in
    λ i. writer_with (lines i) w.offset w.count (depth i)
