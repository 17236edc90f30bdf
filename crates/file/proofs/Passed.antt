-- What holds where the limits on a start, an event and a closing pass.
use Rattle.std.specs.Prelude.{Ok}
use mathlib.Core.Path.{◌≡◌}
use mathlib.Core.List.{[], ◌∷◌}
use Prim.Native.Nat.{ℕ, ◌+◌, ◌≤◌}
use lib.Dec.{eqb}
use borrow.Author.Tests.{eqb-true, ltb-false, not-false}
use Rattle.event.specs.declared.Event.{Event}
use Rattle.records.specs.Record.{record_size}
use Rattle.history.specs.View.{View}
use Rattle.history.specs.Refused.{limits_by, NoneBroken, first_broken, refusal_by}
use Rattle.history.proofs.Given.{none_broken}
use Rattle.limits.proofs.Parts.{none_first, none_rest}
use Rattle.limits.proofs.Passed.{passed_unbroken}
use Rattle.trailer.specs.Trailer.{trailer_size, most_bytes}
use Rattle.file.specs.Limits.{room_limit, start_limits, write_limits, close_limits}
use Rattle.file.specs.declared.Writer.{Writer}
use Rattle.file.specs.Write.{records_end, close_check}

-- an event whose record goes to a place: its own limits pass, the file with its trailer is short enough, and there is room
pub record Fits (room at : ℕ) (v : View) (e : Event) : Type 0 where
  pub own : NoneBroken (limits_by v e)
  pub short : at + record_size + trailer_size ≤ most_bytes
  pub enough : at + record_size ≤ room

module _ (room at : ℕ) (v : View) (e : Event) where
  pub event_fits : NoneBroken (write_limits room at v e) → Fits room at v e
  event_fits (NoneBroken.cons a k) = go (none_rest (limits_by v e) (room_limit room (at + record_size) ∷ []) k)
    where
      go : NoneBroken (room_limit room (at + record_size) ∷ []) → Fits room at v e
      go (NoneBroken.cons b NoneBroken.nil) =
          record {
            own = none_first (limits_by v e) (room_limit room (at + record_size) ∷ []) k;
            short = ltb-false most_bytes (at + record_size + trailer_size) a;
            enough = ltb-false room (at + record_size) b;
          }

  pub event_passed : first_broken (write_limits room at v e) ≡ (Ok tt) → Fits room at v e
  event_passed p = event_fits (passed_unbroken (write_limits room at v e) p)

  pub own_passed : Fits room at v e → refusal_by v e ≡ Ok tt
  unfolding refusal_by
  own_passed k = none_broken k.own

-- a start
pub record Starts (room preamble : ℕ) : Type 0 where
  pub short : preamble + trailer_size ≤ most_bytes
  pub enough : preamble ≤ room

pub start_fits : (room preamble lines : ℕ) → NoneBroken (start_limits room preamble lines) → Starts room preamble
start_fits room preamble lines (NoneBroken.cons a (NoneBroken.cons b (NoneBroken.cons c NoneBroken.nil))) =
    record { short = ltb-false most_bytes (preamble + trailer_size) b; enough = ltb-false room preamble c }

pub start_passed : (room preamble lines : ℕ) → first_broken (start_limits room preamble lines) ≡ (Ok tt) → Starts room preamble
start_passed room preamble lines p = start_fits room preamble lines (passed_unbroken (start_limits room preamble lines) p)

-- a closing
pub close_fits : (room at depth : ℕ) → NoneBroken (close_limits room at depth) → (depth ≡ 0) × (at + trailer_size ≤ room)
close_fits room at depth (NoneBroken.cons a (NoneBroken.cons b NoneBroken.nil)) =
    (eqb-true depth 0 (not-false (eqb depth 0) a), ltb-false room (at + trailer_size) b)

pub close_passed : (room : ℕ) (w : Writer) → close_check room w ≡ (Ok tt) → records_end w + trailer_size ≤ room
close_passed room w p = (close_fits room (records_end w) w.depth (passed_unbroken (close_limits room (records_end w) w.depth) p)).1
