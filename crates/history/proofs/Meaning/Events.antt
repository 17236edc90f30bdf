-- The number of an event, the tests on events, and the epoch, in plain words.
use mathlib.Core.Path.{◌≡◌, refl, ◌∙◌}
use mathlib.Core.Bool.{Bool, true, cond, or-false}
use mathlib.Core.List.{[], ◌∷◌, ◌++◌}
use Prim.Native.Nat.{ℕ, suc, ◌≤◌}
use native.Mathlib.Omega.{arith}
use lib.ListN.{length, length-append}
use Rattle.event.specs.declared.Range.{Range}
use Rattle.event.specs.declared.Event.{Event}
use Rattle.event.specs.declared.Event.TheVariants.{Store, WriteBack, Fence, Begin, Log, End}
use Rattle.event.specs.declared.Record.{Record}
use Rattle.ranges.specs.Ranges.{covers, touches}
use Rattle.history.specs.Count.{count}
use Rattle.history.specs.History.{History, is, fences, begins, ends, stores_byte, stores_line, writes_back_line, logs_byte}
use Rattle.history.specs.Interval.{epoch_at}
use Rattle.history.proofs.History.{is_newest, is_older, count_newest, count_kept}

-- the event that has `older` before it has the number one more than there are of those
pub numbered : (p : Event → Bool) (newer : History) (r : Record) (older : History) → is p (newer ++ r ∷ older) (suc (length older)) ≡ p r.event
numbered p [] r older = is_newest p r older
numbered p (x ∷ newer) r older =
    is_older p x (newer ++ r ∷ older) (suc (length older)) (λ e. omega (arith, length-append newer (r ∷ older), e)) ∙ numbered p newer r older

-- the tests on events go by the range of the kind that they name
pub store_by_range : (a : Range) (b l : ℕ) → (stores_byte b (Store a) ≡ covers a b) × (stores_line l (Store a) ≡ touches a l)
store_by_range a b l = (or-false (covers a b), or-false (touches a l))

pub write_back_by_range : (a : Range) (l : ℕ) → writes_back_line l (WriteBack a) ≡ touches a l
write_back_by_range a l = or-false (touches a l)

pub log_by_range : (a : Range) (b : ℕ) → logs_byte b (Log a) ≡ covers a b
log_by_range a b = or-false (covers a b)

pub others_by_kind : (fences Fence ≡ true) × (begins Begin ≡ true) × (ends End ≡ true)
others_by_kind = (refl, refl, refl)

-- the epoch is 0 at first, one more after each fence, and unchanged by every other event and by what comes later
pub epoch_start : epoch_at [] 0 ≡ 0
unfolding epoch_at count
epoch_start = refl

pub epoch_kept : (r : Record) (h : History) (m : ℕ) → m ≤ length h → epoch_at (r ∷ h) m ≡ epoch_at h m
unfolding epoch_at
epoch_kept r h m k = count_kept fences r h m k

pub epoch_next : (r : Record) (h : History) → epoch_at (r ∷ h) (suc (length h)) ≡ cond (fences r.event) (suc (epoch_at h (length h))) (epoch_at h (length h))
unfolding epoch_at
epoch_next r h = count_newest fences r h
