-- Ranges of no bytes, in plain words: what an event with such a range does, and what it gets, after every history.
use mathlib.Core.Path.{◌≡◌, refl, ap, ◌∙◌, sym}
use mathlib.Core.Bool.{Bool, true, false, cond, not, ◌&&◌, or-false}
use mathlib.Core.Logic.{◌⊎◌, ◌↔◌, inl, inr}
use mathlib.Core.List.{[], ◌∷◌, Memᴰ}
use Prim.Native.Nat.{ℕ, suc, ◌≤◌, ◌<◌}
use lib.Dec.{eqb, ltb}
use lib.ListN.{length}
use borrow.Author.Tests.{not-true, eqb-false, eq-eqb}
use Rattle.event.specs.declared.Range.{Range}
use Rattle.event.specs.declared.Event.{Event}
use Rattle.event.specs.declared.Event.TheVariants.{Store, WriteBack, Fence, Begin, Log, End, Persisted, Ordered}
use Rattle.event.specs.declared.Record.{Record}
use Rattle.event.specs.declared.Finding.{Finding}
use Rattle.event.specs.declared.Finding.TheVariants.{None, Holds, Empty}
use Rattle.event.specs.declared.Refusal.TheVariants.{PastWindow}
use Rattle.window.specs.Window.{window_bytes}
use Rattle.ranges.specs.Ranges.{covers, is_empty, is_past, ranges_of, any_range}
use Rattle.event.proofs.Bools.{contradiction, fails, and_left, and_right, both}
use Rattle.ranges.proofs.Meaning.{empty_covers, empty_touches, covers_some_lem, covers_first, empty_inside, empty_beyond}
use Rattle.history.specs.Count.{count}
use Rattle.history.specs.History.{History, is, stores, begins, ends, covers_byte, covers_some, stores_byte, stores_some, stores_line, writes_back_line, logs_byte, OfNoBytes}
use Rattle.history.specs.Interval.{interval_of, named_of}
use Rattle.history.specs.Image.{pieces}
use Rattle.history.specs.Transaction.{depth, outermost, Since}
use Rattle.history.specs.View.{View, of_history}
use Rattle.history.specs.Refused.{First}
use Rattle.history.specs.Assertion.{Persists, Orders}
use Rattle.history.specs.Warning.{Warned, Wasted, WrittenBack}
use Rattle.history.specs.Claim.{Ended, ClaimOf, Claim}
use Rattle.history.specs.Given.{RefusedBy}
use Rattle.history.proofs.History.{is_unchanged, is_implied}
use Rattle.history.proofs.Window.{any_implied}
use Rattle.history.proofs.NoEffect.{NoEffect, is_last_unchanged, last_store_unchanged, closing_unchanged, interval_unchanged, named_unchanged}
use Rattle.history.proofs.Meaning.Events.{store_by_range, write_back_by_range, log_by_range}
use Rattle.history.proofs.Meaning.Refusals.{any_range_lem, range_any}

-- an event whose ranges have no bytes, with addresses up to the window's size in bytes, is not refused by 9
pub up_to_the_size_lem : (lines : ℕ) (e : Event) → ((a : Range) → Memᴰ a (ranges_of e) → (a.length ≡ 0) × (a.address ≤ window_bytes lines)) →
    any_range (is_past lines) (ranges_of e) ≡ false
up_to_the_size_lem lines e k =
    fails _ (λ t. let a = any_range_lem (is_past lines) (ranges_of e) t in contradiction a.2 (empty_inside lines a.0 (k a.0 a.1).0 (k a.0 a.1).1))

-- one with an address beyond it is
pub beyond_the_size_lem : (lines : ℕ) (h : History) (r : Record) {a : Range} → Memᴰ a (ranges_of r.event) → a.length ≡ 0 →
    window_bytes lines < a.address → RefusedBy lines h r PastWindow
beyond_the_size_lem lines h r {a} m z k = First.here (range_any (is_past lines) m (empty_beyond lines a z k))

-- an event that stores, writes back and logs nothing, and is no fence, no begin and no end
pub record Idle (e : Event) : Type 0 where
  pub no_effect : NoEffect e
  pub no_store : stores_some e ≡ false
  pub no_piece : (l : ℕ) → stores_line l e ≡ false
  pub no_log : (b : ℕ) → logs_byte b e ≡ false
  pub no_begin : begins e ≡ false
  pub no_end : ends e ≡ false

-- a store, a write-back and a log of no bytes is one: the store covers nothing and has no piece, the write-back touches no line
pub idle : {e : Event} → OfNoBytes e → Idle e
idle (OfNoBytes.store {a = a} z) =
    record {
      no_effect = record { no_store = λ b. (store_by_range a b 0).0 ∙ empty_covers a b z; no_back = λ l. refl; no_fence = refl };
      no_store = or-false (not (is_empty a)) ∙ ap not (eq-eqb a.length 0 z);
      no_piece = λ l. (store_by_range a 0 l).1 ∙ empty_touches a l z;
      no_log = λ b. refl;
      no_begin = refl;
      no_end = refl;
    }
idle (OfNoBytes.write_back {a = a} z) =
    record {
      no_effect = record { no_store = λ b. refl; no_back = λ l. write_back_by_range a l ∙ empty_touches a l z; no_fence = refl };
      no_store = refl;
      no_piece = λ l. refl;
      no_log = λ b. refl;
      no_begin = refl;
      no_end = refl;
    }
idle (OfNoBytes.log {a = a} z) =
    record {
      no_effect = record { no_store = λ b. refl; no_back = λ l. refl; no_fence = refl };
      no_store = refl;
      no_piece = λ l. refl;
      no_log = λ b. log_by_range a b ∙ empty_covers a b z;
      no_begin = refl;
      no_end = refl;
    }

-- the same answers, with one event more
abbrev pub one_event_more : View → View
one_event_more v =
    record {
      lines = v.lines;
      events = suc v.events;
      depth = v.depth;
      begin = v.begin;
      latest_store = v.latest_store;
      last_store = v.last_store;
      last_log = v.last_log;
      stored_since = v.stored_since;
      risk = v.risk;
      closing = v.closing;
      line_store = v.line_store;
      line_back = v.line_back;
    }

module _ (r : Record) (h : History) (q : Idle r.event) where
  -- no line has a piece of it
  pub no_piece_lem : (l m : ℕ) → pieces (r ∷ h) l m ≡ pieces h l m
  unfolding pieces
  no_piece_lem l m = ap (λ (p : ℕ → Bool). count p m) (is_unchanged (stores_line l) r h (q.no_piece l))

  -- it opens no interval and closes none
  pub no_interval : (b : ℕ) → interval_of (r ∷ h) b ≡ interval_of h b
  no_interval b = interval_unchanged r h q.no_effect b

  -- and the events that an interval goes by are those that it went by
  pub same_events : (b : ℕ) → named_of (r ∷ h) b ≡ named_of h b
  same_events b = named_unchanged r h q.no_effect b

  same_depth : depth (r ∷ h) ≡ depth h
  unfolding depth
  same_depth = rw (q.no_begin, q.no_end)

  same_begin : outermost (r ∷ h) ≡ outermost h
  unfolding outermost
  same_begin = rw q.no_begin

  -- it makes no transaction non-empty
  pub still_empty : Since (r ∷ h) stores_some ↔ Since h stores_some
  still_empty = (
    λ x. record { number = x.number; later = rw same_begin at x.later; passes = rw (is_unchanged stores_some r h q.no_store) at x.passes },
    λ x. record { number = x.number; later = rw same_begin x.later; passes = rw (is_unchanged stores_some r h q.no_store) x.passes },
  )

  -- what a judge asks has the answers that it had, but for the count of events
  pub nothing_else_lem : (lines : ℕ) → of_history lines (r ∷ h) ≡ one_event_more (of_history lines h)
  nothing_else_lem lines =
      λ i. record {
        lines = lines;
        events = suc (length h);
        depth = same_depth i;
        begin = same_begin i;
        latest_store = is_last_unchanged stores_some r h q.no_store i;
        last_store = λ b. last_store_unchanged r h q.no_effect b i;
        last_log = λ b. is_last_unchanged (logs_byte b) r h (q.no_log b) i;
        stored_since = λ b. ltb (same_begin i) (last_store_unchanged r h q.no_effect b i);
        risk = λ b. not (eqb (last_store_unchanged r h q.no_effect b i) 0) && eqb (closing_unchanged r h q.no_effect b i) 0;
        closing = λ b. closing_unchanged r h q.no_effect b i;
        line_store = λ l. is_last_unchanged (stores_line l) r h (q.no_piece l) i;
        line_back = λ l. is_last_unchanged (writes_back_line l) r h (q.no_effect.no_back l) i;
      }

-- no warning is drawn where nothing has the property
warned_none : {P : ℕ → Type 0} {warning : ℕ → Finding} {f : Finding} → ((x : ℕ) → P x → ⊥) → Warned P warning f → f ≡ None
warned_none none (Warned.none k) = refl
warned_none none (Warned.warns l) = absurd (none _ l.has)

written_back_none : {h : History} {a : Range} {f : Finding} → ((l : ℕ) → Wasted h a l → ⊥) → WrittenBack h a f → f ≡ None
written_back_none none (WrittenBack.useful k) = refl
written_back_none none (WrittenBack.clean l k) = absurd (none _ l.has)
written_back_none none (WrittenBack.twice l k) = absurd (none _ l.has)

-- a persisted over no bytes can only hold, and so can an ordered of which one range has none
persists_none : {now : History} {n : ℕ} {B : ℕ → Type 0} {f : Finding} → ((b : ℕ) → B b → ⊥) → Persists now n B f → f ≡ Holds
persists_none none (Persists.holds k) = refl
persists_none none (Persists.lost l s) = absurd (none _ l.has.judged)

orders_none : {now : History} {n : ℕ} {a b : Range} {f : Finding} → (a.length ≡ 0) ⊎ (b.length ≡ 0) → Orders now n a b f → f ≡ Holds
orders_none z (Orders.holds k) = refl
orders_none {a = a} (inl z) (Orders.out_of_order {lost = lost} x y s k) = absurd (contradiction y.has.in_a (empty_covers a lost z))
orders_none {b = b} (inr z) (Orders.out_of_order {kept = kept} x y s k) = absurd (contradiction y.has.in_b (empty_covers b kept z))

ends_none : {h now : History} {n : ℕ} {f : Finding} → depth h ≡ 1 → (Since h stores_some → ⊥) → Ended h now n f → f ≡ Empty
ends_none d none (Ended.inner k) = absurd (k d)
ends_none d none (Ended.empty e k) = refl
ends_none d none (Ended.outermost e s p) = absurd (none s)

-- what the claim of an event's finding admits, by the accepted events alone
module _ (h : History) where
  -- a store, a write-back and a log of no bytes: no warning
  draws_none : (now : History) (n : ℕ) {e : Event} {f : Finding} → OfNoBytes e → ClaimOf h now n e f → f ≡ None
  draws_none now n (OfNoBytes.store {a = a} z) claim = warned_none (λ b x. contradiction x.covered (empty_covers a b z)) claim
  draws_none now n (OfNoBytes.write_back {a = a} z) claim = written_back_none (λ l x. contradiction x.touched (empty_touches a l z)) claim
  draws_none now n (OfNoBytes.log {a = a} z) claim = warned_none (λ b x. contradiction x.covered (empty_covers a b z)) claim

  module _ (r : Record) {f : Finding} (claim : Claim h r f) where
    pub no_warning : OfNoBytes r.event → f ≡ None
    no_warning q = draws_none (r ∷ h) (suc (length h)) q claim

    -- a persisted over no bytes holds
    pub persisted_empty : {a : Range} → r.event ≡ Persisted a → a.length ≡ 0 → f ≡ Holds
    persisted_empty {a} e z = persists_none (λ b t. contradiction t (empty_covers a b z)) (rw e at claim)

    -- and so does an ordered whose A or whose B has none
    pub ordered_empty : {a b : Range} → r.event ≡ Ordered a b → (a.length ≡ 0) ⊎ (b.length ≡ 0) → f ≡ Holds
    ordered_empty e z = orders_none z (rw e at claim)

    -- an outermost end after no stores but such since its begin is empty
    pub only_empty_stores : r.event ≡ End → depth h ≡ 1 →
        ((i : ℕ) → outermost h < i → is stores h i ≡ true → is covers_some h i ≡ false) → f ≡ Empty
    only_empty_stores e d only =
        ends_none d
        (λ (x : Since h stores_some).
        let i = x.number in
        let store = is_implied stores_some stores (λ e. and_left (stores e) (covers_some e)) h i x.passes in
        contradiction (is_implied stores_some covers_some (λ e. and_right (stores e) (covers_some e)) h i x.passes) (only i x.later store))
        (rw e at claim)

-- a store of some byte covers a byte
some_byte : (e : Event) → stores_some e ≡ true → (b : ℕ) × (stores_byte b e ≡ true)
some_byte e t =
    let a = any_range_lem (λ a. not (is_empty a)) (ranges_of e) (and_right (stores e) (covers_some e) t) in
    let n = eqb-false a.0.length 0 (not-true (is_empty a.0) a.2) in
    (a.0.address, both (and_left (stores e) (covers_some e) t) (range_any (λ c. covers c a.0.address) a.1 (covers_first a.0 n)))

some_byte_at : (h : History) (i : ℕ) → is stores_some h i ≡ true → (b : ℕ) × (is (stores_byte b) h i ≡ true)
unfolding is
some_byte_at [] i t = absurd (contradiction t refl)
some_byte_at (r ∷ h) i t = go (eqb i (suc (length h))) t (some_byte_at h i)
  where
    go : (c : Bool) → cond c (stores_some r.event) (is stores_some h i) ≡ true → (is stores_some h i ≡ true → (b : ℕ) × (is (stores_byte b) h i ≡ true)) →
        (b : ℕ) × (cond c (stores_byte b r.event) (is (stores_byte b) h i) ≡ true)
    go true t rest = some_byte r.event t
    go false t rest = rest t

-- a store that covers a byte is one of some byte
stores_some_lem : (b : ℕ) (e : Event) → stores_byte b e ≡ true → stores_some e ≡ true
stores_some_lem b e t =
    both (and_left (stores e) (covers_byte b e) t)
    (any_implied (λ a. covers a b) (λ a. not (is_empty a)) (λ a. covers_some_lem a b) (ranges_of e) (and_right (stores e) (covers_byte b e) t))

-- so a transaction is not empty exactly if some byte was stored in it
pub not_empty_lem : (h : History) → Since h stores_some ↔ ((b : ℕ) × Since h (stores_byte b))
not_empty_lem h = (
  λ x. let s = some_byte_at h x.number x.passes in (s.0, record { number = x.number; later = x.later; passes = s.1 }),
  λ y. record { number = y.1.number; later = y.1.later; passes = is_implied (stores_byte y.0) stores_some (stores_some_lem y.0) h y.1.number y.1.passes },
)

-- an event with an empty range
abbrev pub has_empty : Event → Bool
has_empty e = any_range is_empty (ranges_of e)

-- an event with none is a store of some byte exactly if it is a store
store_of_some : (e : Event) → has_empty e ≡ false → stores_some e ≡ stores e
store_of_some (Store a) k = rw (sym (or-false (is_empty a)) ∙ k)
store_of_some (WriteBack a) k = refl
store_of_some Fence k = refl
store_of_some Begin k = refl
store_of_some (Log a) k = refl
store_of_some End k = refl
store_of_some (Persisted a) k = refl
store_of_some (Ordered a b) k = refl

store_of_some_at : (h : History) (i : ℕ) → is has_empty h i ≡ false → is stores_some h i ≡ is stores h i
unfolding is
store_of_some_at [] i k = refl
store_of_some_at (r ∷ h) i k = go (eqb i (suc (length h))) k (store_of_some_at h i)
  where
    go : (c : Bool) → cond c (has_empty r.event) (is has_empty h i) ≡ false → (is has_empty h i ≡ false → is stores_some h i ≡ is stores h i) →
        cond c (stores_some r.event) (is stores_some h i) ≡ cond c (stores r.event) (is stores h i)
    go true k rest = store_of_some r.event k
    go false k rest = rest k

-- so after events of which none has an empty range, a transaction is empty exactly if it has no store since its begin
pub none_empty : (h : History) → ((i : ℕ) → is has_empty h i ≡ false) → is stores_some h ≡ is stores h
none_empty h k = λ j. λ i. store_of_some_at h i (k i) j
