-- The findings of an accepted trace are bytes: every number in them has 16 bits.
use Rattle.std.specs.Prelude.{Ok, Err}
use mathlib.Core.Path.{◌≡◌, refl, sym, subst}
use mathlib.Core.Bool.{Bool, true, false, cond, ◌&&◌, ◌||◌}
use mathlib.Core.Option.{Option, none, some}
use mathlib.Core.List.{List, [], ◌∷◌, ◌++◌}
use Prim.Native.Nat.{ℕ, zero, suc, ◌+◌, ◌-◌, ◌*◌, ◌≤◌, ◌<◌}
use native.Mathlib.Omega.{arith}
use lib.Dec.{eqb, ltb}
use lib.ListN.{length, take, drop, get_or}
use lib.Seq.{get_or-drop}
use borrow.Author.Tests.{ltb-true, ltb-false}
use Rattle.event.specs.declared.Range.{Range}
use Rattle.event.specs.declared.Event.{Event}
use Rattle.event.specs.declared.Event.TheVariants.{Store, WriteBack, Fence, Begin, Log, End, Persisted, Ordered}
use Rattle.event.specs.declared.Finding.{Finding}
use Rattle.event.specs.declared.Finding.TheVariants.{None, Holds, Lost, OutOfOrder, Unlogged, Clean, WrittenTwice, LoggedTwice, Empty}
use Rattle.event.specs.declared.Record.{Record}
use Rattle.event.specs.declared.Refusal.TheVariants.{UnknownKind, FieldSet}
use Rattle.event.specs.Answers.{Check, Parsed}
use Rattle.event.specs.Numbers.{fields_of}
use Rattle.event.proofs.Bools.{or_neither}
use Rattle.window.specs.Window.{window_bytes, line_of, line_start}
use Rattle.ranges.specs.Ranges.{line_count, range_end, is_past, ranges_of, any_range}
use Rattle.codec.specs.Codec.{u16_bytes, finding_bytes}
use Rattle.records.specs.Record.{record_size, bad_kind, field_set, record_of}
use Rattle.history.specs.History.{History}
use Rattle.history.specs.View.{View, of_history}
use Rattle.history.specs.Refused.{Limit, limits_by, NoneBroken, first_broken, refusal_by}
use Rattle.history.specs.Given.{answer_for, answer_of, answers}
use Rattle.history.proofs.Interval.{last_store_within}
use Rattle.history.proofs.Given.{Checked, checked}
use Rattle.trailer.specs.Trailer.{trailer_size, trailer_of}
use Rattle.trace.specs.Records.{record_part, records_of, events_of, events_in}
use Rattle.verdict.specs.Verdict.{findings_bytes, trace_check, answers_of}
use Rattle.listing.proofs.Area.{AllFound, each_found, events_few, lines_few}
use Rattle.history.specs.Found.{lowest, found_or, since, logged, unlogged, clean, written_twice, warned_line, at_risk, durable, breaks, or_pair, lowest_pair, in_order, outermost_end, finding_by}

-- a finding whose numbers have 16 bits
record Small (f : Finding) : Type 0 where
  lost : (fields_of f).lost ≤ 65535
  kept : (fields_of f).kept ≤ 65535
  moment : (fields_of f).moment ≤ 65535
  store : (fields_of f).store ≤ 65535

-- what holds of nothing, and of each of some numbers, holds of the lowest that passes a test
by_lowest : (P : Option ℕ → Type 0) (p : ℕ → Bool) (x n : ℕ) → P none → ((b : ℕ) → b < x + n → P (some b)) → P (lowest p x n)
unfolding lowest
by_lowest P p x zero nothing one = nothing
by_lowest P p x (suc n) nothing one = go (p x) (by_lowest P p (suc x) n nothing (λ b k. one b (omega arith)))
  where
    go : (b : Bool) → P (lowest p (suc x) n) → P (cond b (some x) (lowest p (suc x) n))
    go true rest = one x (omega arith)
    go false rest = rest

-- findings with no number, and with the lost byte alone
none_small : Small None
none_small = record { lost = omega arith; kept = omega arith; moment = omega arith; store = omega arith }

holds_small : Small Holds
holds_small = record { lost = omega arith; kept = omega arith; moment = omega arith; store = omega arith }

empty_small : Small Empty
empty_small = record { lost = omega arith; kept = omega arith; moment = omega arith; store = omega arith }

-- a line starts within the largest window
start_small : (l : ℕ) → line_start l ≤ 65535
start_small l = go (ltb l 64) refl
  where
    go : (b : Bool) → ltb l 64 ≡ b → cond b (l * 64) 0 ≤ 65535
    go true e = omega (arith, ltb-true l 64 e)
    go false e = omega arith

module _ (v : View) (events : v.events < 65535) (stores : (b : ℕ) → v.last_store b ≤ 65535) (window : window_bytes v.lines ≤ 65535) where
  -- holds, or a byte lost
  durable_small : (p : ℕ → Bool) (x n : ℕ) → x + n ≤ 65535 → Small (durable v (lowest p x n))
  durable_small p x n few =
      by_lowest (λ o. Small (durable v o)) p x n holds_small
      (λ b k. record { lost = omega arith; kept = omega arith; moment = omega arith; store = stores b })

  line_small : (l : ℕ) → Small (warned_line v l)
  line_small l = go (eqb (v.line_store l) 0)
    where
      go : (b : Bool) → Small (cond b (Clean (line_start l)) (WrittenTwice (line_start l)))
      go true = record { lost = start_small l; kept = omega arith; moment = omega arith; store = omega arith }
      go false = record { lost = start_small l; kept = omega arith; moment = omega arith; store = omega arith }

  pair_small : (p : ℕ → ℕ → Bool) (a : Range) (x n : ℕ) → range_end a ≤ 65535 → x + n ≤ 65535 → Small (in_order v (lowest_pair p a x n))
  unfolding lowest_pair
  pair_small p a x zero end few = holds_small
  pair_small p a x (suc n) end few =
      by_lowest (λ o. Small (in_order v (or_pair x o (lowest_pair p a (suc x) n)))) (p x) a.address a.length
      (pair_small p a (suc x) n end (omega arith))
      (λ b k. record { lost = omega arith; kept = omega arith; moment = stores x; store = stores b })

  end_small : Small (outermost_end v)
  end_small = go (since v v.latest_store)
    where
      go : (b : Bool) → Small (cond b (durable v (lowest (λ b. v.stored_since b && at_risk v b) 0 (window_bytes v.lines))) Empty)
      go true = durable_small (λ b. v.stored_since b && at_risk v b) 0 (window_bytes v.lines) (omega arith)
      go false = empty_small

  -- a range that does not run past the window
  range_inside : (a : Range) (others : List Range) → any_range (is_past v.lines) (a ∷ others) ≡ false → range_end a ≤ 65535
  range_inside a others e =
      omega (arith, ltb-false (window_bytes v.lines) (range_end a) (or_neither (is_past v.lines a) (any_range (is_past v.lines) others) e).0)

  -- the finding of an event whose ranges do not
  small_finding : (e : Event) → any_range (is_past v.lines) (ranges_of e) ≡ false → Small (finding_by v e)
  unfolding finding_by
  small_finding (Store a) k =
      by_lowest (λ o. Small (found_or o None Unlogged)) (unlogged v) a.address a.length none_small
      (λ b l. record { lost = omega (arith, range_inside a [] k); kept = omega arith; moment = omega arith; store = omega arith })
  small_finding (WriteBack a) k =
      by_lowest (λ o. Small (found_or o None (warned_line v))) (λ l. clean v l || written_twice v l) (line_of a.address) (line_count a) none_small
      (λ l few. line_small l)
  small_finding Fence k = none_small
  small_finding Begin k = none_small
  small_finding (Log a) k =
      by_lowest (λ o. Small (found_or o None LoggedTwice)) (logged v) a.address a.length none_small
      (λ b l. record { lost = omega (arith, range_inside a [] k); kept = omega arith; moment = omega arith; store = omega arith })
  small_finding End k = go (eqb v.depth 1)
    where
      go : (b : Bool) → Small (cond b (outermost_end v) None)
      go true = end_small
      go false = none_small
  small_finding (Persisted a) k = durable_small (at_risk v) a.address a.length (range_inside a [] k)
  small_finding (Ordered a b) k =
      pair_small (breaks v) a b.address b.length (range_inside a (b ∷ []) k)
      (range_inside b [] (or_neither (is_past v.lines a) (any_range (is_past v.lines) (b ∷ [])) k).1)

-- lists of bytes
abbrev pub Bytes : List ℕ → Type 0
Bytes s = (i : ℕ) → get_or s i 0 < 256

bytes_cons : (b : ℕ) (s : List ℕ) → b < 256 → Bytes s → Bytes (b ∷ s)
bytes_cons b s k all zero = k
bytes_cons b s k all (suc i) = all i

bytes_append : (s t : List ℕ) → Bytes s → Bytes t → Bytes (s ++ t)
bytes_append [] t first second i = second i
bytes_append (b ∷ s) t first second zero = first 0
bytes_append (b ∷ s) t first second (suc i) = bytes_append s t (λ j. first (suc j)) second i

bytes_take : (n : ℕ) (s : List ℕ) → Bytes s → Bytes (take n s)
bytes_take zero s all i = omega arith
bytes_take (suc n) [] all i = omega arith
bytes_take (suc n) (b ∷ s) all zero = all 0
bytes_take (suc n) (b ∷ s) all (suc i) = bytes_take n s (λ j. all (suc j)) i

bytes_drop : (n : ℕ) (s : List ℕ) → Bytes s → Bytes (drop n s)
bytes_drop n s all i = rw (get_or-drop n s i 0) (all (n + i))

u16_bytes_lem : (n : ℕ) → n ≤ 65535 → Bytes (u16_bytes n)
u16_bytes_lem n k zero = omega arith
u16_bytes_lem n k (suc zero) = omega arith
u16_bytes_lem n k (suc (suc i)) = omega arith

-- a finding's kind is at most 8
pub kind_known : (f : Finding) → ltb 8 (fields_of f).kind ≡ false
kind_known None = refl
kind_known Holds = refl
kind_known (Lost a b c) = refl
kind_known (OutOfOrder a b c d) = refl
kind_known (Unlogged a) = refl
kind_known (Clean a) = refl
kind_known (WrittenTwice a) = refl
kind_known (LoggedTwice a) = refl
kind_known Empty = refl

finding_bytes_lem : (f : Finding) (site : ℕ) → Small f → site ≤ 65535 → Bytes (finding_bytes f site)
finding_bytes_lem f site small k =
    let x = fields_of f in
    let a = x.kind ∷ 0 ∷ u16_bytes x.lost in
    let b = a ++ u16_bytes x.kept in
    let c = b ++ u16_bytes x.moment in
    let d = c ++ u16_bytes x.store in
    bytes_append d (u16_bytes site)
    (bytes_append c (u16_bytes x.store)
    (bytes_append b (u16_bytes x.moment)
    (bytes_append a (u16_bytes x.kept)
    (bytes_cons x.kind (0 ∷ u16_bytes x.lost) (omega (arith, ltb-false 8 x.kind (kind_known f)))
    (bytes_cons 0 (u16_bytes x.lost) (omega arith) (u16_bytes_lem x.lost small.lost)))
    (u16_bytes_lem x.kept small.kept))
    (u16_bytes_lem x.moment small.moment))
    (u16_bytes_lem x.store small.store))
    (u16_bytes_lem site k)

-- events whose sites have 16 bits: those that are read from bytes
data AllSites : List Record → Type 0 where
  done : AllSites []
  more : {r : Record} {rest : List Record} → r.site ≤ 65535 → AllSites rest → AllSites (r ∷ rest)

sites : (count : ℕ) (s : List ℕ) → Bytes s → AllSites (events_of (records_of count s))
unfolding records_of events_of
sites zero s all = AllSites.done
sites (suc count) s all = go (bad_kind front) (field_set front) (sites count (drop record_size s) (bytes_drop record_size s all))
  where
    front : List ℕ
    front = take record_size s

    rest : List Parsed
    rest = records_of count (drop record_size s)

    go : (b c : Bool) → AllSites (events_of rest) →
        AllSites (events_of (cond b (Err UnknownKind) (cond c (Err FieldSet) (Ok (record_of front))) ∷ rest))
    go true c others = others
    go false true others = others
    go false false others = AllSites.more {r = record_of front} (omega (arith, bytes_take record_size s all 10, bytes_take record_size s all (10 + 1))) others

-- a finding that an event got is the one that the history before it gives, and the event's ranges lie in the window
taken_finding : (lines : ℕ) (h : History) (r : Record) {f : Finding} → answer_of lines h r ≡ Ok f →
    (f ≡ finding_by (of_history lines h) r.event) × (any_range (is_past lines) (ranges_of r.event) ≡ false)
unfolding answer_of refusal_by
taken_finding lines h r {f} e = go (first_broken limits) (checked limits) e
  where
    limits : List Limit
    limits = limits_by (of_history lines h) r.event

    inside : NoneBroken limits → any_range (is_past lines) (ranges_of r.event) ≡ false
    inside (NoneBroken.cons a b) = a

    go : (c : Check) → Checked limits c → answer_for c (finding_by (of_history lines h) r.event) ≡ Ok f →
        (f ≡ finding_by (of_history lines h) r.event) × (any_range (is_past lines) (ranges_of r.event) ≡ false)
    go (Ok _) (Checked.none k) e = (cc, inside k)
    go (Err x) (Checked.first k) e = let z : ◌≡◌ {A = ℕ} 0 1 = cc in absurd (omega arith)

all_bytes : {lines : ℕ} {h : History} {records : List Parsed} → window_bytes lines ≤ 65535 → AllFound lines h records → AllSites (events_of records) →
    length h + length (events_of records) ≤ 65535 → let given = events_of records in Bytes (findings_bytes given (answers lines h given))
unfolding events_of answers findings_bytes
all_bytes window AllFound.done known few = λ i. omega arith
all_bytes {lines} {h} window (AllFound.found {r = r} {f = f} {rest = others} e rest) (AllSites.more site known) few =
    let given = events_of others in
    let t = taken_finding lines h r e in
    let v = of_history lines h in
    let small : Small (finding_by v r.event) =
    small_finding v (omega arith) (λ b. omega (arith, last_store_within h b)) window r.event t.1 in
    rw (e, answers)
    (bytes_append (finding_bytes f r.site) (findings_bytes given (answers lines (r ∷ h) given))
    (finding_bytes_lem f r.site (subst Small (sym t.0) small) site)
    (all_bytes window rest known (omega arith)))

-- so it is with an accepted trace that is bytes
pub findings_bytes_lem : (trace area : List ℕ) → trace_check trace area ≡ (Ok tt) → Bytes trace → Bytes (findings_bytes (events_in trace) (answers_of trace))
findings_bytes_lem trace area passes all =
    let t = trailer_of trace in
    let part = bytes_take (length trace - trailer_size - t.offset) (drop t.offset trace) (bytes_drop t.offset trace all) in
    all_bytes (omega (arith, lines_few trace area passes)) (each_found trace area passes) (sites t.count (record_part t.offset trace) part)
    (omega (arith, events_few trace area passes))
