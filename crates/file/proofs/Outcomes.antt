-- The outcome of a call, by what its checks say.
use Rattle.std.specs.Prelude.{Ok, Err}
use mathlib.Core.Path.{◌≡◌, refl, sym, ap, ap₂, ◌∙◌}
use mathlib.Core.Bool.{Bool, true, false, cond}
use mathlib.Core.Logic.{◌≢◌}
use mathlib.Core.List.{List, [], ◌∷◌, ◌++◌}
use Prim.Native.Nat.{ℕ, ◌+◌, ◌≤◌}
use lib.Dec.{ltb}
use lib.ListN.{length}
use borrow.Author.Tests.{eq-eqb, ne_eqb}
use Rattle.event.specs.declared.Event.{Event}
use Rattle.event.specs.declared.Event.TheVariants.{Fence}
use Rattle.event.specs.declared.Record.{Record}
use Rattle.event.specs.declared.Refusal.{Refusal}
use Rattle.event.specs.declared.Refusal.TheVariants.{TraceTooLong, TransactionOpen}
use Rattle.event.specs.Answers.{Check, Parsed}
use Rattle.event.proofs.Laws.{equal_by}
use Rattle.codec.specs.Placed.{placed}
use Rattle.codec.proofs.Placed.{placed_laid}
use Rattle.records.specs.Record.{record_size, record_of, parsed}
use Rattle.history.specs.Refused.{Limit, limits_by, first_broken, refusal_by}
use Rattle.limits.proofs.Parts.{part_refused, part_passed}
use Rattle.trailer.specs.Trailer.{trailer_size, most_bytes}
use Rattle.trace.specs.Checked.{read_limits}
use Rattle.trace.proofs.ReadLimits.{as_read, as_unread}
use Rattle.file.specs.declared.Writer.{Writer}
use Rattle.file.specs.Answers.{Written}
use Rattle.file.specs.Limits.{room_limit}
use Rattle.file.specs.Write.{records_end, view_of, area_for, record_laid, written_for, write_check, written_of, area_written, unread_check, parsed_written_of, area_parsed_written, bytes_check, bytes_written_of, area_bytes_written, close_check}

-- the check of an event: 2, its own limits, 15
module _ (room : ℕ) (w : Writer) (e : Event) {t : Bool} (tested : t ≡ ltb most_bytes (records_end w + record_size + trailer_size)) where
  pub write_long : t ≡ true → Err TraceTooLong ≡ write_check room w e
  write_long k = rw (equal_by tested k)

  pub write_refused_lem : {x : Refusal} → t ≡ false → refusal_by (view_of w) e ≡ Err x → Err x ≡ write_check room w e
  unfolding refusal_by
  write_refused_lem k f = rw (equal_by tested k) (part_refused (limits_by (view_of w) e) (room_limit room (records_end w + record_size) ∷ []) f)

  pub write_passed : {c : Check} → t ≡ false → refusal_by (view_of w) e ≡ (Ok tt) → c ≡ first_broken (room_limit room (records_end w + record_size) ∷ []) →
      c ≡ write_check room w e
  unfolding refusal_by
  write_passed k f g = rw (equal_by tested k) (part_passed (limits_by (view_of w) e) (room_limit room (records_end w + record_size) ∷ []) f g)

-- the check of a closing: 13, 15
pub close_open : (room : ℕ) (w : Writer) → w.depth ≢ 0 → close_check room w ≡ Err TransactionOpen
close_open room w k = rw (ne_eqb w.depth 0 k)

pub close_room : (room : ℕ) (w : Writer) {c : Check} {at : ℕ} → w.depth ≡ 0 → at ≡ records_end w → c ≡ first_broken (room_limit room (at + trailer_size) ∷ []) →
    close_check room w ≡ c
close_room room w k e f = rw (eq-eqb w.depth 0 k) (sym (f ∙ ap (λ (n : ℕ). first_broken (room_limit room (n + trailer_size) ∷ [])) e))

-- bytes that fit are laid down where the check passes
pub area_laid : {c : Check} {next bytes : List ℕ} {at : ℕ} (place : ℕ) (laying area : List ℕ) → c ≡ (Ok tt) → place + length laying ≤ length area →
    at ≡ place → bytes ≡ laying → next ≡ placed at bytes area → next ≡ area_for c place laying area
area_laid place laying area p k e f g = g ∙ ap₂ (λ (n : ℕ) (s : List ℕ). placed n s area) e f ∙ placed_laid area laying place k ∙ (rw p)

-- an event that comes as bytes which cannot be read: by 2 where it applies, else by the number that reading gave
module _ (w : Writer) (s : List ℕ) (room : ℕ) where
  abbrev rest : List Limit
  rest = limits_by (view_of w) (record_of s).event ++ room_limit room (records_end w + record_size) ∷ []

  abbrev long : Bool
  long = ltb most_bytes (records_end w + record_size + trailer_size)

  unread_check_lem : {x : Refusal} → parsed s ≡ Err x →
      bytes_check room w s ≡ unread_check w x
  unread_check_lem e = ap (λ (c : Check). cond long (Err TraceTooLong) c) (sym (part_refused (read_limits s) rest (as_unread s e)))

  -- and of one that can be read the record decides
  read_check : {r : Record} → parsed s ≡ Ok r → bytes_check room w s ≡ write_check room w (record_of s).event
  read_check e = ap (λ (c : Check). cond long (Err TraceTooLong) c) (sym (part_passed (read_limits s) rest (as_read s e).passed (λ i. first_broken rest)))

-- whichever of the two numbers it is, nothing changes
module _ (area : List ℕ) (w : Writer) (s : List ℕ) {x : Refusal} (e : parsed s ≡ Err x) where
  pub bytes_unread : {v : Written} →
      v ≡ written_for (unread_check w x) w Fence → v ≡ bytes_written_of area w s
  bytes_unread k = k ∙ go (long w s (length area)) ∙ ap (λ (c : Check). written_for c w (record_of s).event) (sym (unread_check_lem w s (length area) e))
    where
      go : (b : Bool) → written_for (cond b (Err TraceTooLong) (Err x)) w Fence ≡ written_for (cond b (Err TraceTooLong) (Err x)) w (record_of s).event
      go true = λ i. record { check = Err TraceTooLong; writer = w }
      go false = λ i. record { check = Err x; writer = w }

  pub area_unread : area ≡ area_bytes_written area w s
  area_unread = go (long w s (length area)) ∙ ap (λ (c : Check). record_laid c w (record_of s) area) (sym (unread_check_lem w s (length area) e))
    where
      go : (b : Bool) → area ≡ record_laid (cond b (Err TraceTooLong) (Err x)) w (record_of s) area
      go true = λ i. area
      go false = λ i. area

-- an event that comes as bytes which can be read
module _ (area : List ℕ) (w : Writer) (s : List ℕ) {r : Record} (e : parsed s ≡ Ok r) where
  pub bytes_read : {v : Written} → v ≡ written_of area w r → v ≡ bytes_written_of area w s
  bytes_read k =
      k ∙ ap (written_of area w) (as_read s e).same ∙
      ap (λ (c : Check). written_for c w (record_of s).event) (sym (read_check w s (length area) e))

  pub area_read : {next : List ℕ} → next ≡ area_written area w r → next ≡ area_bytes_written area w s
  area_read k =
      k ∙ ap (area_written area w) (as_read s e).same ∙
      ap (λ (c : Check). record_laid c w (record_of s) area) (sym (read_check w s (length area) e))

-- an event that comes as bytes is the event as it was read
pub bytes_parsed : (area : List ℕ) (w : Writer) (s : List ℕ) →
    (parsed_written_of area w (parsed s) ≡ bytes_written_of area w s) × (area_parsed_written area w (parsed s) ≡ area_bytes_written area w s)
bytes_parsed area w s = go (parsed s) refl
  where
    go : (p : Parsed) → parsed s ≡ p → (parsed_written_of area w p ≡ bytes_written_of area w s) × (area_parsed_written area w p ≡ area_bytes_written area w s)
    go (Ok r) e = (bytes_read area w s e refl, area_read area w s e refl)
    go (Err x) e = (bytes_unread area w s e refl, area_unread area w s e)
