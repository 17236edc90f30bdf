-- The window of a run and the refusals 9, 18 and 10 to 12, in plain words.
use mathlib.Core.Path.{◌≡◌, refl}
use mathlib.Core.Bool.{Bool, true}
use mathlib.Core.Logic.{◌⊎◌, inl, inr, ⊎_elim}
use mathlib.Core.List.{List, [], ◌∷◌, Memᴰ}
use Prim.Native.Nat.{ℕ, ◌+◌, ◌*◌, ◌≤◌, ◌<◌}
use native.Mathlib.Omega.{arith}
use lib.Dec.{eqb, leb}
use lib.ListN.{length}
use borrow.Author.Tests.{eqb-true, eq-eqb, ne_eqb, leb-true, le-leb, ltb-true, lt-ltb, le-ltb}
use Rattle.event.specs.declared.Range.{Range}
use Rattle.event.specs.declared.Event.{Event}
use Rattle.event.specs.declared.Event.TheVariants.{Store, WriteBack, Fence, Begin, Log, End, Persisted, Ordered}
use Rattle.event.specs.declared.Record.{Record}
use Rattle.event.specs.declared.Refusal.{Refusal}
use Rattle.event.specs.Numbers.{kind_of, number_of}
use Rattle.ranges.specs.Ranges.{covers, is_past, ranges_of, any_range, shares_byte, ranges_share}
use Rattle.event.proofs.Bools.{contradiction, and_left, and_right, both, or_cases, or_left, or_right}
use Rattle.ranges.proofs.Meaning.{shared_byte_lem, byte_shared}
use Rattle.history.specs.History.{History, begins, logs, ends}
use Rattle.history.specs.Transaction.{depth}
use Rattle.history.specs.View.{of_history}
use Rattle.history.specs.Refused.{most_events, most_depth, limits_by, limit_numbers, First, NoneBroken, asks_open}
use Rattle.history.specs.Given.{window_of, RefusedBy, Accepted}

-- the window is the one asked for, or one line where that is refused
pub window_asked : (asked : ℕ) → 1 ≤ asked → asked ≤ 64 → window_of asked ≡ asked
window_asked asked low high = rw (ne_eqb asked 0 (λ z. omega (arith, low, z)), le-ltb 64 asked high)

pub window_refused_lem : (asked : ℕ) → (asked ≡ 0) ⊎ (64 < asked) → window_of asked ≡ 1
window_refused_lem asked (inl z) = rw (eq-eqb asked 0 z)
window_refused_lem asked (inr k) = rw (ne_eqb asked 0 (λ z. omega (arith, k, z)), lt-ltb 64 asked k)

-- what each number says of an event after the history h
pub data Applies (lines : ℕ) (h : History) (e : Event) : ℕ → Type 0 where
  past_window : {a : Range} → Memᴰ a (ranges_of e) → lines * 64 < a.address + a.length → Applies lines h e 9
  shared_byte : {a b : Range} (byte : ℕ) → e ≡ Ordered a b → covers a byte ≡ true → covers b byte ≡ true → Applies lines h e 18
  exhausted : 65535 ≤ length h → Applies lines h e 10
  no_transaction : (kind_of e ≡ 5) ⊎ (kind_of e ≡ 6) → depth h ≡ 0 → Applies lines h e 11
  too_deep : kind_of e ≡ 4 → 8 ≤ depth h → Applies lines h e 12

pub any_range_lem : (p : Range → Bool) (rs : List Range) → any_range p rs ≡ true → (a : Range) × Memᴰ a rs × (p a ≡ true)
any_range_lem p [] e = absurd (contradiction e refl)
any_range_lem p (r ∷ rs) e = go (or_cases (p r) (any_range p rs) e) (any_range_lem p rs)
  where
    go : (p r ≡ true) ⊎ (any_range p rs ≡ true) → (any_range p rs ≡ true → (a : Range) × Memᴰ a rs × (p a ≡ true)) → (a : Range) × Memᴰ a (r ∷ rs) × (p a ≡ true)
    go (inl k) rest = (r, Memᴰ.head refl, k)
    go (inr k) rest = ((rest k).0, Memᴰ.tail (rest k).1, (rest k).2)

pub range_any : (p : Range → Bool) {a : Range} {rs : List Range} → Memᴰ a rs → p a ≡ true → any_range p rs ≡ true
range_any p (Memᴰ.head {xs = xs} e) k = or_left (any_range p xs) (rw e at k)
range_any p (Memᴰ.tail {x = x} m) k = or_right (p x) (range_any p m k)

asks_open_lem : (e : Event) → (kind_of e ≡ 5) ⊎ (kind_of e ≡ 6) → asks_open e ≡ true
asks_open_lem e (inl k) = rw k
asks_open_lem e (inr k) = rw k

log_or_end : (e : Event) → asks_open e ≡ true → (kind_of e ≡ 5) ⊎ (kind_of e ≡ 6)
log_or_end e t = ⊎_elim (λ k. inl (eqb-true (kind_of e) 5 k)) (λ k. inr (eqb-true (kind_of e) 6 k)) (or_cases (logs e) (ends e) t)

-- an event whose ranges share a byte is an ordered
pub shared_ranges : (e : Event) → ranges_share e ≡ true → (a b : Range) × (e ≡ Ordered a b) × (shares_byte a b ≡ true)
shared_ranges (Store a) t = absurd (contradiction t refl)
shared_ranges (WriteBack a) t = absurd (contradiction t refl)
shared_ranges Fence t = absurd (contradiction t refl)
shared_ranges Begin t = absurd (contradiction t refl)
shared_ranges (Log a) t = absurd (contradiction t refl)
shared_ranges End t = absurd (contradiction t refl)
shared_ranges (Persisted a) t = absurd (contradiction t refl)
shared_ranges (Ordered a b) t = (a, b, refl, t)

-- the numbers are tried in the order 9, 18, 10, 11, 12
pub limits_in_order : (lines : ℕ) (h : History) (e : Event) → limit_numbers (limits_by (of_history lines h) e) ≡ 9 ∷ 18 ∷ 10 ∷ 11 ∷ 12 ∷ []
limits_in_order lines h e = refl

-- the number that refuses an event applies to it
pub refused_applies : (lines : ℕ) (h : History) (r : Record) {x : Refusal} → RefusedBy lines h r x → Applies lines h r.event (number_of x)
refused_applies lines h r (First.here t) =
    let a = any_range_lem (is_past lines) (ranges_of r.event) t in
    Applies.past_window a.1 (ltb-true _ _ a.2)
refused_applies lines h r (First.later a (First.here t)) =
    let x = shared_ranges r.event t in
    let byte = shared_byte_lem x.0 x.1 x.3 in
    Applies.shared_byte byte.0 x.2 byte.1 byte.2
refused_applies lines h r (First.later a (First.later s (First.here t))) = Applies.exhausted (omega (arith, leb-true most_events (length h) t))
refused_applies lines h r (First.later a (First.later s (First.later b (First.here t)))) =
    Applies.no_transaction (log_or_end r.event (and_left (asks_open r.event) (eqb (depth h) 0) t)) (eqb-true _ _ (and_right (asks_open r.event) (eqb (depth h) 0) t))
refused_applies lines h r (First.later a (First.later s (First.later b (First.later c (First.here t))))) =
    let deep = leb-true most_depth (depth h) (and_right (begins r.event) (leb most_depth (depth h)) t) in
    Applies.too_deep (eqb-true (kind_of r.event) 4 (and_left (begins r.event) (leb most_depth (depth h)) t)) (omega (arith, deep))
refused_applies lines h r (First.later a (First.later s (First.later b (First.later c (First.later d none))))) = elim none [ ]

-- and none applies to one that is accepted
pub accepted_none : (lines : ℕ) (h : History) (r : Record) {n : ℕ} → Accepted lines h r → Applies lines h r.event n → ⊥
accepted_none lines h r (NoneBroken.cons f k) (Applies.past_window m e) = contradiction (range_any (is_past lines) m (lt-ltb _ _ e)) f
accepted_none lines h r (NoneBroken.cons past (NoneBroken.cons f k)) (Applies.shared_byte {a = a} {b = b} byte e c d) = contradiction (rw e (byte_shared a b byte c d)) f
accepted_none lines h r (NoneBroken.cons a (NoneBroken.cons s (NoneBroken.cons f k))) (Applies.exhausted e) = contradiction (le-leb most_events (length h) (omega (arith, e))) f
accepted_none lines h r (NoneBroken.cons a (NoneBroken.cons s (NoneBroken.cons b (NoneBroken.cons f k)))) (Applies.no_transaction t e) = contradiction (both (asks_open_lem r.event t) (eq-eqb _ 0 e)) f
accepted_none lines h r (NoneBroken.cons a (NoneBroken.cons s (NoneBroken.cons b (NoneBroken.cons c (NoneBroken.cons f k))))) (Applies.too_deep t e) = contradiction (both (eq-eqb (kind_of r.event) 4 t) (le-leb most_depth (depth h) (omega (arith, e)))) f
