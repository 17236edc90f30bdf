-- What a writer wrote: the trace of the accepted events, which the judge accepts and which reads back.
use Rattle.std.specs.Prelude.{Ok, Err}
use mathlib.Core.Path.{◌≡◌, refl, sym, ap, ap₂, subst, ◌∙◌}
use mathlib.Core.Bool.{true, false, not, ◌&&◌}
use mathlib.Core.Logic.{◌⊎◌, inl, inr}
use mathlib.Core.List.{List, [], ◌∷◌, ◌++◌, map, append_assoc, append-nil, reverse, reverse-cons}
use Prim.Native.Nat.{ℕ, suc, ◌+◌, ◌*◌, ◌-◌, ◌≤◌, ◌<◌}
use native.Mathlib.Omega.{arith}
use lib.Dec.{eqb}
use lib.ListN.{length, take, drop, get_or, length-reverse}
use lib.Seq.{take_at, length-take-le, get_or-take, get_or_at, drop-cons}
use borrow.Author.Tests.{le-ltb, eq-eqb}
use Rattle.event.specs.declared.Event.{Event}
use Rattle.event.specs.declared.Event.TheVariants.{Store, WriteBack, Fence, Begin, Log, End, Persisted, Ordered}
use Rattle.event.specs.declared.Record.{Record}
use Rattle.event.specs.declared.Refusal.{Refusal}
use Rattle.event.specs.declared.Refusal.TheVariants.{MarkDiffers}
use Rattle.event.specs.Answers.{Check, Parsed}
use Rattle.event.specs.Numbers.{kind_of, number_of}
use Rattle.event.specs.Reply.{Reply}
use Rattle.window.specs.Window.{bad_lines}
use Rattle.codec.specs.Codec.{u16_bytes, finding_size}
use Rattle.codec.specs.Placed.{laid}
use Rattle.codec.proofs.Placed.{laid_length, laid_front, laid_before, laid_behind}
use Rattle.records.specs.Record.{record_size, range_bytes, range_a, range_b, record_bytes}
use Rattle.history.specs.History.{History}
use Rattle.history.specs.Transaction.{depth}
use Rattle.history.specs.View.{of_history}
use Rattle.history.specs.Refused.{Limit, First, NoneBroken, first_broken, refusal_by}
use Rattle.history.specs.Given.{RefusedBy}
use Rattle.history.proofs.Given.{Checked, checked, first_broken_lem, none_broken}
use Rattle.trailer.specs.declared.Trailer.{Trailer}
use Rattle.trailer.specs.Trailer.{trailer_size, most_bytes, same_bytes, trailer_bytes, has_mark, trailer_with, file_limits}
use Rattle.trailer.proofs.Written.{opened}
use Rattle.trace.specs.Checked.{unless_broken, check_from, check_all}
use Rattle.trace.specs.Layout.{records_bytes, trace_bytes}
use Rattle.trace.proofs.ReadBack.{trace_length, trailer_read, trace_known, records_read, events_read, lines_read}
use Rattle.verdict.specs.Verdict.{area_size, trace_check, verdict_of, verdict_reply}
use Rattle.verdict.proofs.Outcome.{refuses, totalled}
use Rattle.file.specs.Limits.{room_limit, start_limits, write_limits, close_limits}
use Rattle.file.specs.Write.{area_started}
use Rattle.file.proofs.Passed.{event_fits, close_fits}
use Rattle.claims.specs.Traces.{Rejected}
use Rattle.claims.specs.Writing.{WriterCall, Writing, writing, started, call_reply, writing_next, writing_after, place_after, call_limits, call_size, written_by}
use Rattle.claims.specs.TracesWritten.{Closes, Judged, ReadsBack, AfterCalls, TracesWritten}
use Rattle.claims.proofs.Answers.{not_refused}
use Rattle.claims.proofs.Traces.{trace_refused_lem, records_check}
use Rattle.claims.proofs.Writing.{Chain, Holds, holds_started, writer_for, trailer_for, holds_closed, event_reply, event_left, closing_reply_lem, closing_left, Stays, stays, Lays, lays}
use Rattle.claims.proofs.WriterRuns.{LeadsTo, leads, one_writer_run}
use Rattle.claims.proofs.WriterLimits.{from_bytes_lem}

-- records of accepted events pass, and those after them decide
map_append : (events more : List Record) → map {B = Parsed} Ok (events ++ more) ≡ map Ok events ++ map Ok more
map_append [] more = refl
map_append (r ∷ events) more = ap (λ (l : List Parsed). Ok r ∷ l) (map_append events more)

chain_checked : {lines : ℕ} {h : History} → Chain lines h → (rest : List Parsed) →
    check_from lines 1 [] (map Ok (reverse h) ++ rest) ≡ check_from lines (suc (length h)) h rest
unfolding check_from refusal_by
chain_checked Chain.start rest = refl
chain_checked {lines} (Chain.next {h = h} {r = r} a c) rest =
    ap (λ (l : List Record). check_from lines 1 [] (map Ok l ++ rest)) (reverse-cons r h) ∙
    ap (λ (l : List Parsed). check_from lines 1 [] (l ++ rest)) (map_append (reverse h) (r ∷ [])) ∙
    ap (check_from lines 1 []) (append_assoc (map Ok (reverse h)) (Ok r ∷ []) rest) ∙
    chain_checked c (Ok r ∷ rest) ∙
    ap (λ (x : Check). unless_broken x (suc (length h)) (check_from lines (suc (suc (length h))) (r ∷ h) rest)) (none_broken a)

none_both : {a b : List Limit} → NoneBroken a → NoneBroken b → NoneBroken (a ++ b)
none_both NoneBroken.nil k = k
none_both (NoneBroken.cons e j) k = NoneBroken.cons e (none_both j k)

-- a trace laid out as its parts, within the limits of a file: its records decide
module _ (preamble : List ℕ) (events : List Record) (lines : ℕ) (window : bad_lines lines ≡ false)
    (short : length preamble + record_size * length events + trailer_size ≤ most_bytes) where
  abbrev file : List ℕ
  file = trace_bytes preamble events lines

  file_limits_lem : NoneBroken (file_limits file)
  file_limits_lem = (opened file (trace_known preamble events lines window (omega (arith, trace_length preamble events lines)))).limits

  counted : area_size file ≡ finding_size * length events
  counted = ap (λ (t : Trailer). finding_size * t.count) (trailer_read preamble events lines)

  written_check : (found : List ℕ) → finding_size * length events ≤ length found → trace_check file found ≡ check_all lines (map Ok events)
  written_check found room =
      records_check file found (none_both file_limits_lem (NoneBroken.cons (le-ltb (length found) (area_size file) (rw counted room)) NoneBroken.nil)) ∙
      ap₂ check_all (lines_read preamble events lines) (records_read preamble events lines)

  reads_back_lem : ReadsBack file preamble events lines
  reads_back_lem =
      record {
        records = records_read preamble events lines;
        events = events_read preamble events lines;
        window = lines_read preamble events lines;
        front =
            ap (λ (t : Trailer). take t.offset file) (trailer_read preamble events lines) ∙
            ap (take (length preamble)) (append_assoc preamble (records_bytes events) (trailer_with (length preamble) (length events) lines)) ∙
            take_at preamble (records_bytes events ++ trailer_with (length preamble) (length events) lines) (length preamble) refl;
      }

pub first_part : {a : List Limit} {x : Refusal} → First a x → (b : List Limit) → First (a ++ b) x
first_part (First.here e) b = First.here e
first_part (First.later e k) b = First.later e (first_part k b)

same_size : (m n : ℕ) → Reply.values (m ∷ []) ≡ Reply.values (n ∷ []) → m ≡ n
same_size m n e = cc

-- a record where a trailer stood: the bytes up to where it ended lack the mark, since no kind is its first byte
no_mark : (e : Event) → eqb (kind_of e) 80 ≡ false
no_mark (Store a) = refl
no_mark (WriteBack a) = refl
no_mark Fence = refl
no_mark Begin = refl
no_mark (Log a) = refl
no_mark End = refl
no_mark (Persisted a) = refl
no_mark (Ordered a b) = refl

module _ (area : List ℕ) (e : Event) (site at : ℕ) (found : List ℕ) (inside : at + record_size ≤ length area)
    (room : at + trailer_size ≤ length area) (few : at + trailer_size ≤ most_bytes) where
  abbrev bytes : List ℕ
  bytes = record_bytes e site

  abbrev cut : List ℕ
  cut = take (at + trailer_size) (laid at bytes area)

  cut_length : length cut ≡ at + trailer_size
  cut_length = length-take-le (at + trailer_size) (laid at bytes area) (rw (laid_length area bytes at inside) room)

  -- the byte where the trailer would start is the record's kind
  first_byte : get_or cut at 0 ≡ kind_of e
  first_byte =
      get_or-take (at + trailer_size) (laid at bytes area) at 0 (omega arith) ∙ sym (get_or-take (at + record_size) (laid at bytes area) at 0 (omega arith)) ∙
      ap (λ (l : List ℕ). get_or l at 0) (laid_front area bytes at inside) ∙
      get_or_at (take at area) (kind_of e) (0 ∷ range_bytes (range_a e) ++ range_bytes (range_b e) ++ u16_bytes site) 0 at (length-take-le at area (omega arith))

  mark_differs : not (has_mark (trailer_bytes cut)) ≡ true
  unfolding same_bytes
  mark_differs =
      let place : length cut - trailer_size ≡ at = omega (arith, cut_length) in
      ap (λ (n : ℕ). not (has_mark (drop n cut))) place ∙ ap (λ (l : List ℕ). not (has_mark l)) (drop-cons cut at 0 (omega (arith, cut_length))) ∙
      ap (λ (x : ℕ). not (eqb x 80 && same_bytes (take 3 (drop (suc at) cut)) (84 ∷ 82 ∷ 65 ∷ []))) first_byte ∙ (rw (no_mark e))

  overwritten : Rejected cut found 3 0
  overwritten =
      trace_refused_lem cut found {x = MarkDiffers}
      (First.later (le-ltb (length cut) trailer_size (omega (arith, cut_length)))
      (First.later (le-ltb most_bytes (length cut) (omega (arith, cut_length)))
      (First.here mark_differs)))

module _ (room : ℕ) (preamble : List ℕ) (lines : ℕ) (window : bad_lines lines ≡ false) (h : History) (area : List ℕ)
    (k : Holds room preamble lines h area) where
  -- what the next call gets, and where it lays its bytes
  abbrev now : Writing
  now = writing area (writer_for room preamble lines h)

  abbrev at : ℕ
  at = place_after (length preamble) h

  -- a call is refused or lays its bytes down
  does : (c : WriterCall) → ((x : Refusal) × Stays room preamble lines h area k c x) ⊎ Lays room preamble lines h area k c
  does c = go (first_broken (call_limits room (length preamble) lines h c)) (checked (call_limits room (length preamble) lines h c))
    where
      go : (d : Check) → Checked (call_limits room (length preamble) lines h c) d →
          ((x : Refusal) × Stays room preamble lines h area k c x) ⊎ Lays room preamble lines h area k c
      go (Ok _) (Checked.none n) = inr (lays room preamble lines h area k c n)
      go (Err x) (Checked.first n) = inl (x, stays room preamble lines h area k c n)

  -- so a refused call changes nothing, and another leaves every other byte as it was
  unchanged : (c : WriterCall) (number place : ℕ) → call_reply now c ≡ Reply.refused number place → writing_next now c ≡ now
  unchanged c number place e = go (does c)
    where
      go : ((x : Refusal) × Stays room preamble lines h area k c x) ⊎ Lays room preamble lines h area k c → writing_next now c ≡ now
      go (inl (x, s)) = s.left
      go (inr l) = absurd (not_refused l.answer e)

  others : (c : WriterCall) (i : ℕ) → (i < at) ⊎ (at + call_size c ≤ i) → get_or (writing_next now c).area i 0 ≡ get_or area i 0
  others c i side = go (does c) side
    where
      go : ((x : Refusal) × Stays room preamble lines h area k c x) ⊎ Lays room preamble lines h area k c → (i < at) ⊎ (at + call_size c ≤ i) →
          get_or (writing_next now c).area i 0 ≡ get_or area i 0
      go (inl (x, s)) side = ap (λ (f : Writing). get_or f.area i 0) s.left
      go (inr l) (inl before) = ap (λ (f : Writing). get_or f.area i 0) l.left ∙ laid_before area l.bytes at l.inside i before
      go (inr l) (inr behind) =
          let long = l.long in
          ap (λ (f : Writing). get_or f.area i 0) l.left ∙ laid_behind area l.bytes at l.inside i (omega arith)

  same_length : (c : WriterCall) → length (writing_next now c).area ≡ room
  same_length c = go (does c)
    where
      go : ((x : Refusal) × Stays room preamble lines h area k c x) ⊎ Lays room preamble lines h area k c → length (writing_next now c).area ≡ room
      go (inl (x, s)) = ap (λ (f : Writing). length f.area) s.left ∙ k.size
      go (inr l) = ap (λ (f : Writing). length f.area) l.left ∙ laid_length area l.bytes at l.inside ∙ k.size

  -- the file after an accepted closing
  count : length (reverse h) ≡ length h
  count = length-reverse h

  short : length preamble + record_size * length (reverse h) + trailer_size ≤ most_bytes
  short = let fits = k.short in rw count (omega arith)

  -- what the closing's limits say where it is accepted
  closes_none : (size : ℕ) → Closes now size → NoneBroken (close_limits room at (depth h))
  closes_none size e = go (first_broken (close_limits room at (depth h))) refl (checked (close_limits room at (depth h)))
    where
      go : (c : Check) → first_broken (close_limits room at (depth h)) ≡ c → Checked (close_limits room at (depth h)) c →
          NoneBroken (close_limits room at (depth h))
      go (Ok _) p (Checked.none n) = n
      go (Err x) p (Checked.first n) = absurd (not_refused e (closing_reply_lem room preamble lines h area k p))

  closed_file : (size : ℕ) → Closes now size → take size (writing_next now WriterCall.closes).area ≡ trace_bytes preamble (reverse h) lines
  closed_file size e =
      let n = closes_none size e in
      let bytes = trailer_for room preamble lines h in
      let long : size ≡ at + trailer_size = same_size size (at + trailer_size) (sym e ∙ closing_reply_lem room preamble lines h area k (none_broken n)) in
      let length-is = k.size in
      ap₂ take long (ap (λ (f : Writing). f.area) (closing_left room preamble lines h area k (none_broken n))) ∙
      laid_front area bytes at (omega (arith, (close_fits room at (depth h) n).1)) ∙ ap (λ (l : List ℕ). l ++ bytes) k.front ∙
      ap (λ (m : ℕ). preamble ++ records_bytes (reverse h) ++ trailer_with (length preamble) m lines) (sym count)

  judged : (size : ℕ) → Closes now size → Judged (trace_bytes preamble (reverse h) lines) (length h)
  unfolding check_from
  judged size e found enough =
      let closed : depth h ≡ 0 = (close_fits room at (depth h) (closes_none size e)).0 in
      let trace = trace_bytes preamble (reverse h) lines in
      let passes : trace_check trace found ≡ (Ok tt) =
      written_check preamble (reverse h) lines window short found (rw count enough) ∙ ap (check_from lines 1 []) (sym (append-nil (map Ok (reverse h)))) ∙
      chain_checked k.chain [] ∙ (rw (eq-eqb (depth h) 0 closed)) in
      (_, ap verdict_reply (totalled trace found passes))

  -- an event that the judge would refuse at that place
  as_judged_lem : (r : Record) {x : Refusal} → RefusedBy lines h r x → at + record_size + trailer_size ≤ most_bytes →
      (call_reply now (WriterCall.writes r) ≡ Reply.refused (number_of x) 0) ×
      ((found : List ℕ) → finding_size * suc (length h) ≤ length found →
      verdict_reply (verdict_of (trace_bytes preamble (reverse (r ∷ h)) lines) found) ≡ Reply.refused (number_of x) (suc (length h)))
  unfolding check_from refusal_by
  as_judged_lem r {x} n fits = (
    event_reply room preamble lines h area k r
        (first_broken_lem (First.later (le-ltb most_bytes (at + record_size + trailer_size) fits) (first_part n (room_limit room (at + record_size) ∷ [])))),
    λ found enough.
        let trace = trace_bytes preamble (reverse (r ∷ h)) lines in
        let more : length (reverse (r ∷ h)) ≡ suc (length h) = length-reverse (r ∷ h) in
        ap verdict_reply
        (refuses trace found
        (written_check preamble (reverse (r ∷ h)) lines window (rw more (omega arith)) found (rw more enough) ∙
        ap (λ (l : List Record). check_from lines 1 [] (map Ok l)) (reverse-cons r h) ∙
        ap (check_from lines 1 []) (map_append (reverse h) (r ∷ [])) ∙ chain_checked k.chain (Ok r ∷ []) ∙
        ap (λ (c : Check). unless_broken c (suc (length h)) (check_from lines (suc (suc (length h))) (r ∷ h) [])) (first_broken_lem n))),
  )

  -- an event after an accepted closing: no mark is left where the trailer was
  event_none : (r : Record) {next : List ℕ} → Holds room preamble lines h next →
      call_reply (writing next (writer_for room preamble lines h)) (WriterCall.writes r) ≡ Reply.values [] →
      NoneBroken (write_limits room at (of_history lines h) r.event)
  event_none r {next} l e = go (first_broken (write_limits room at (of_history lines h) r.event)) refl (checked (write_limits room at (of_history lines h) r.event))
    where
      go : (c : Check) → first_broken (write_limits room at (of_history lines h) r.event) ≡ c → Checked (write_limits room at (of_history lines h) r.event) c →
          NoneBroken (write_limits room at (of_history lines h) r.event)
      go (Ok _) p (Checked.none n) = n
      go (Err x) p (Checked.first n) = absurd (not_refused e (event_reply room preamble lines h next l r p))

  after_closing_lem : (r : Record) (size : ℕ) → let g = writing_next now WriterCall.closes in
      Closes now size → call_reply g (WriterCall.writes r) ≡ Reply.values [] →
      (found : List ℕ) → Rejected (take size (writing_next g (WriterCall.writes r)).area) found 3 0
  after_closing_lem r size e a found =
      let n = closes_none size e in
      let shut = laid at (trailer_for room preamble lines h) area in
      let l = holds_closed room preamble lines h area k n in
      let left = closing_left room preamble lines h area k (none_broken n) in
      let m = event_none r l (ap (λ (f : Writing). call_reply f (WriterCall.writes r)) (sym left) ∙ a) in
      let bytes = record_bytes r.event r.site in
      let fits = event_fits room at (of_history lines h) r.event m in
      let long : size ≡ at + trailer_size = same_size size (at + trailer_size) (sym e ∙ closing_reply_lem room preamble lines h area k (none_broken n)) in
      let written : (writing_next (writing_next now WriterCall.closes) (WriterCall.writes r)).area ≡ laid at bytes shut =
      ap (λ (f : Writing). (writing_next f (WriterCall.writes r)).area) left ∙ ap (λ (f : Writing). f.area) (event_left room preamble lines h shut l r (none_broken m)) in
      let shut_size : length shut ≡ room = l.size in
      let room_is : at + trailer_size ≤ room = (close_fits room at (depth h) n).1 in
      let few : at + trailer_size ≤ most_bytes = k.short in
      subst (λ (s : List ℕ). Rejected s found 3 0) (sym (ap₂ take long written))
      (overwritten shut r.event r.site at found (omega (arith, fits.enough)) (omega arith) few)

  pub after_calls : AfterCalls room preamble lines h now
  after_calls =
      record {
        writer = refl;
        front = k.front;
        file = closed_file;
        judged = judged;
        reads_back = reads_back_lem preamble (reverse h) lines window short;
        as_judged = as_judged_lem;
        refused = unchanged;
        others = others;
        size = same_length;
        closing = refl;
        after_closing = after_closing_lem;
      }

-- a start that is accepted has 1 to 64 lines
window_lines : (room preamble lines : ℕ) → NoneBroken (start_limits room preamble lines) → bad_lines lines ≡ false
window_lines room preamble lines (NoneBroken.cons a more) = a

module _ (area preamble : List ℕ) (lines : ℕ) (calls : List WriterCall) (n : NoneBroken (start_limits (length area) (length preamble) lines)) where
  begun : Holds (length area) preamble lines [] (area_started area preamble lines)
  begun = holds_started area preamble lines n

  led : LeadsTo (length area) preamble lines [] (area_started area preamble lines) calls
  led = leads (length area) preamble lines [] (area_started area preamble lines) begun calls

  after_all : AfterCalls (length area) preamble lines (written_by (length area) (length preamble) lines [] calls) (writing_after (started area preamble lines) calls)
  unfolding depth
  after_all =
      subst (AfterCalls (length area) preamble lines (written_by (length area) (length preamble) lines [] calls)) (sym led.after)
      (after_calls (length area) preamble lines (window_lines (length area) (length preamble) lines n)
      (written_by (length area) (length preamble) lines [] calls) led.left led.holds)

pub traces_written : TracesWritten
unfolding depth
traces_written =
    record {
      answers = λ area preamble lines calls n. (led area preamble lines calls n).run;
      only = λ area preamble lines calls others n k. one_writer_run k (led area preamble lines calls n).run;
      after = after_all;
      from_bytes = from_bytes_lem;
    }
