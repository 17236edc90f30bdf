-- The ranges of an event that no limit refuses are within the tables.
use Rattle.std.specs.Prelude.{Ok}
use Rattle.std.proofs.Common.{◌≡◌, ℕ, ◌*◌, ◌≤◌, Bool, true, false, ◌||◌, List, [], ◌∷◌, refl, arith, ltb-false}
use Rattle.event.specs.declared.Range.{Range}
use Rattle.event.specs.declared.Event.{Event}
use Rattle.ranges.specs.Ranges.{is_past, range_end, ranges_of, any_range}
use Rattle.history.specs.Refused.{refusal_by}
use Rattle.limits.proofs.Passed.{Passes, passed}
use Rattle.tables.specs.declared.Counts.{Counts}
use Rattle.tables.specs.View.{lines_of, limits_of}

-- what the limits say of an event that passes
pub passes : (counts : Counts) (e : Event) → refusal_by (limits_of counts) e ≡ (Ok tt) → Passes (lines_of counts) counts.events counts.depth e
passes counts e k = passed (lines_of counts) counts.events counts.depth e k

-- each range of such an event is within the tables
pub within_tables : (counts : Counts) (a : Range) (rest : List Range) → any_range (is_past (lines_of counts)) (a ∷ rest) ≡ false → range_end a ≤ 4096
within_tables counts a rest e = go (is_past (lines_of counts) a) refl e
  where
    go : (t : Bool) → is_past (lines_of counts) a ≡ t → t || any_range (is_past (lines_of counts)) rest ≡ false → range_end a ≤ 4096
    go true k f = let z : ◌≡◌ {A = ℕ} 0 1 = cc in absurd (omega arith)
    go false k f = let h : range_end a ≤ lines_of counts * 64 = ltb-false (lines_of counts * 64) (range_end a) k in omega arith

-- the first range of an event that passes is within the tables
pub first_range : (counts : Counts) (e : Event) (a : Range) (rest : List Range) → ranges_of e ≡ a ∷ rest →
    refusal_by (limits_of counts) e ≡ (Ok tt) → range_end a ≤ 4096
first_range counts e a rest k p = within_tables counts a rest (rw k at (passes counts e p).ranges)

-- and so is the second
pub second_range : (counts : Counts) (e : Event) (a b : Range) → ranges_of e ≡ a ∷ b ∷ [] →
    refusal_by (limits_of counts) e ≡ (Ok tt) → range_end b ≤ 4096
second_range counts e a b k p = within_tables counts b [] (rest (is_past (lines_of counts) a) (rw k at (passes counts e p).ranges))
  where
    rest : (t : Bool) {u : Bool} → t || u ≡ false → u ≡ false
    rest true f = let z : ◌≡◌ {A = ℕ} 0 1 = cc in absurd (omega arith)
    rest false f = f
