-- Calls on a writer followed from its start: what the area holds, and what each call answers and leaves.
use mathlib.Core.Path.{◌≡◌, refl, sym, ap, subst, ◌∙◌}
use mathlib.Core.List.{List, [], ◌∷◌, ◌++◌, append_assoc, append-nil, reverse, reverse-cons}
use Prim.Native.Nat.{ℕ, ◌+◌, ◌≤◌}
use native.Mathlib.Omega.{arith}
use lib.ListN.{length, take}
use Rattle.event.specs.declared.Record.{Record}
use Rattle.event.specs.declared.Refusal.{Refusal}
use Rattle.event.specs.Answers.{Check}
use Rattle.event.specs.Numbers.{number_of}
use Rattle.event.specs.Reply.{Reply}
use Rattle.codec.specs.Placed.{laid}
use Rattle.codec.proofs.Placed.{laid_length, laid_front, laid_head}
use Rattle.records.specs.Record.{record_of, record_bytes}
use Rattle.history.specs.History.{History}
use Rattle.history.specs.Transaction.{depth}
use Rattle.history.specs.View.{of_history}
use Rattle.history.specs.Refused.{First, NoneBroken, first_broken}
use Rattle.history.specs.Given.{Accepted}
use Rattle.history.proofs.Given.{first_broken_lem, none_broken}
use Rattle.trailer.specs.Trailer.{trailer_size, most_bytes, trailer_with}
use Rattle.trace.specs.Layout.{records_bytes}
use Rattle.trace.proofs.ReadBack.{records_append}
use Rattle.file.specs.declared.Writer.{Writer}
use Rattle.file.specs.Limits.{start_limits, write_limits, bytes_limits, close_limits}
use Rattle.file.specs.Write.{writer_with, area_for, area_started, record_laid, written_for, write_check, bytes_check, closed_for, close_check}
use Rattle.file.specs.Reply.{written_reply, closed_reply}
use Rattle.file.proofs.Passed.{event_fits, start_fits, close_fits}
use Rattle.claims.specs.Writing.{WriterCall, Writing, writing, call_reply, writing_next, place_after, call_limits, call_size, call_values, history_after}

-- each event was accepted after those before it
pub data Chain (lines : ℕ) : History → Type 0 where
  start : Chain lines []
  next : {h : History} {r : Record} → Accepted lines h r → Chain lines h → Chain lines (r ∷ h)

-- what the area holds after the events of h
pub record Holds (room : ℕ) (preamble : List ℕ) (lines : ℕ) (h : History) (area : List ℕ) : Type 0 where
  pub size : length area ≡ room
  pub front : take (place_after (length preamble) h) area ≡ preamble ++ records_bytes (reverse h)
  pub short : place_after (length preamble) h + trailer_size ≤ most_bytes
  pub enough : place_after (length preamble) h ≤ room
  pub chain : Chain lines h

-- after the start
pub holds_started : (area preamble : List ℕ) (lines : ℕ) → NoneBroken (start_limits (length area) (length preamble) lines) →
    Holds (length area) preamble lines [] (area_started area preamble lines)
unfolding records_bytes
holds_started area preamble lines k =
    let f = start_fits (length area) (length preamble) lines k in
    let e : area_started area preamble lines ≡ laid 0 preamble area = ap (λ (c : Check). area_for c 0 preamble area) (none_broken k) in
    let place : place_after (length preamble) [] ≡ 0 + length preamble = omega arith in
    subst (Holds (length area) preamble lines []) (sym e)
    record {
      size = laid_length area preamble 0 (omega (arith, f.enough));
      front = ap (λ (n : ℕ). take n (laid 0 preamble area)) place ∙ laid_front area preamble 0 (omega (arith, f.enough)) ∙ sym (append-nil preamble);
      short = omega (arith, f.short);
      enough = omega (arith, f.enough);
      chain = Chain.start;
    }

module _ (room : ℕ) (preamble : List ℕ) (lines : ℕ) where
  -- the writer after the events of h
  abbrev pub writer_for : History → Writer
  writer_for h = writer_with lines (length preamble) (length h) (depth h)

  abbrev pub trailer_for : History → List ℕ
  trailer_for h = trailer_with (length preamble) (length h) lines

  module _ (h : History) (area : List ℕ) (k : Holds room preamble lines h area) where
    abbrev at : ℕ
    at = place_after (length preamble) h

    -- after one event more
    pub holds_taken : (r : Record) → NoneBroken (write_limits room at (of_history lines h) r.event) →
        Holds room preamble lines (r ∷ h) (laid at (record_bytes r.event r.site) area)
    unfolding records_bytes
    holds_taken r n =
        let bytes = record_bytes r.event r.site in
        let f = event_fits room at (of_history lines h) r.event n in
        let size = k.size in
        let inside : at + length bytes ≤ length area = omega (arith, f.enough) in
        let place : place_after (length preamble) (r ∷ h) ≡ at + length bytes = omega arith in
        record {
          size = laid_length area bytes at inside ∙ size;
          front =
              ap (λ (m : ℕ). take m (laid at bytes area)) place ∙ laid_front area bytes at inside ∙ ap (λ (l : List ℕ). l ++ bytes) k.front ∙
              append_assoc preamble (records_bytes (reverse h)) bytes ∙
              ap (λ (l : List ℕ). preamble ++ l)
              (ap (λ (l : List ℕ). records_bytes (reverse h) ++ l) (sym (append-nil bytes)) ∙ sym (records_append (reverse h) (r ∷ [])) ∙
              ap records_bytes (sym (reverse-cons r h)));
          short = omega (arith, f.short);
          enough = omega (arith, f.enough);
          chain = Chain.next f.own k.chain;
        }

    -- after a closing
    pub holds_closed : NoneBroken (close_limits room at (depth h)) → Holds room preamble lines h (laid at (trailer_for h) area)
    holds_closed n =
        let size = k.size in
        let inside : at + length (trailer_for h) ≤ length area = omega (arith, (close_fits room at (depth h) n).1) in
        record {
          size = laid_length area (trailer_for h) at inside ∙ size;
          front = laid_head area (trailer_for h) at inside ∙ k.front;
          short = k.short;
          enough = k.enough;
          chain = k.chain;
        }

    -- what the next call gets
    abbrev now : Writing
    now = writing area (writer_for h)

    -- an event by what the check of its limits says, those of the accepted events
    module _ (r : Record) {c : Check} (p : first_broken (write_limits room at (of_history lines h) r.event) ≡ c) where
      event_check : write_check (length area) (writer_for h) r.event ≡ c
      event_check = ap (λ (n : ℕ). write_check n (writer_for h) r.event) k.size ∙ p

      pub event_reply : call_reply now (WriterCall.writes r) ≡ written_reply (written_for c (writer_for h) r.event)
      event_reply = ap (λ (d : Check). written_reply (written_for d (writer_for h) r.event)) event_check

      pub event_left : writing_next now (WriterCall.writes r) ≡ writing (record_laid c (writer_for h) r area) (written_for c (writer_for h) r.event).writer
      event_left = ap (λ (d : Check). writing (record_laid d (writer_for h) r area) (written_for d (writer_for h) r.event).writer) event_check

    -- one that comes as bytes
    module _ (s : List ℕ) {c : Check} (p : first_broken (bytes_limits room at (of_history lines h) s) ≡ c) where
      bytes_check_lem : bytes_check (length area) (writer_for h) s ≡ c
      bytes_check_lem = ap (λ (n : ℕ). bytes_check n (writer_for h) s) k.size ∙ p

      bytes_reply : call_reply now (WriterCall.writes_bytes s) ≡ written_reply (written_for c (writer_for h) (record_of s).event)
      bytes_reply = ap (λ (d : Check). written_reply (written_for d (writer_for h) (record_of s).event)) bytes_check_lem

      bytes_left : writing_next now (WriterCall.writes_bytes s) ≡
          writing (record_laid c (writer_for h) (record_of s) area) (written_for c (writer_for h) (record_of s).event).writer
      bytes_left = ap (λ (d : Check). writing (record_laid d (writer_for h) (record_of s) area) (written_for d (writer_for h) (record_of s).event).writer) bytes_check_lem

    -- and a closing
    module _ {c : Check} (p : first_broken (close_limits room at (depth h)) ≡ c) where
      closing_check : close_check (length area) (writer_for h) ≡ c
      closing_check = ap (λ (n : ℕ). close_check n (writer_for h)) k.size ∙ p

      pub closing_reply_lem : call_reply now WriterCall.closes ≡ closed_reply (closed_for c (at + trailer_size))
      closing_reply_lem = ap (λ (d : Check). closed_reply (closed_for d (at + trailer_size))) closing_check

      pub closing_left : writing_next now WriterCall.closes ≡ writing (area_for c at (trailer_for h) area) (writer_for h)
      closing_left = ap (λ (d : Check). writing (area_for d at (trailer_for h) area) (writer_for h)) closing_check

    -- so a call that a number refuses changes nothing
    pub record Stays (c : WriterCall) (x : Refusal) : Type 0 where
      pub answer : call_reply now c ≡ Reply.refused (number_of x) 0
      pub left : writing_next now c ≡ now

    pub stays : (c : WriterCall) {x : Refusal} → First (call_limits room (length preamble) lines h c) x → Stays c x
    stays (WriterCall.writes r) n = record { answer = event_reply r (first_broken_lem n); left = event_left r (first_broken_lem n) }
    stays (WriterCall.writes_bytes s) n = record { answer = bytes_reply s (first_broken_lem n); left = bytes_left s (first_broken_lem n) }
    stays WriterCall.closes n = record { answer = closing_reply_lem (first_broken_lem n); left = closing_left (first_broken_lem n) }

    -- and one that no number refuses lays its bytes behind the records
    pub record Lays (c : WriterCall) : Type 0 where
      pub bytes : List ℕ
      pub long : length bytes ≡ call_size c
      pub inside : at + length bytes ≤ length area
      pub answer : call_reply now c ≡ Reply.values (call_values (length preamble) h c)
      pub left : writing_next now c ≡ writing (laid at bytes area) (writer_for (history_after c h))
      pub holds : Holds room preamble lines (history_after c h) (laid at bytes area)

    -- the limits on an event that comes as bytes are those on the event and more
    on_event : (s : List ℕ) → NoneBroken (bytes_limits room at (of_history lines h) s) → NoneBroken (write_limits room at (of_history lines h) (record_of s).event)
    on_event s (NoneBroken.cons a (NoneBroken.cons b (NoneBroken.cons c n))) = NoneBroken.cons a n

    record_inside : (r : Record) → NoneBroken (write_limits room at (of_history lines h) r.event) → at + length (record_bytes r.event r.site) ≤ length area
    record_inside r n = let size = k.size in omega (arith, (event_fits room at (of_history lines h) r.event n).enough)

    pub lays : (c : WriterCall) → NoneBroken (call_limits room (length preamble) lines h c) → Lays c
    unfolding depth
    lays (WriterCall.writes r) n =
        record {
          bytes = record_bytes r.event r.site;
          long = refl;
          inside = record_inside r n;
          answer = event_reply r (none_broken n);
          left = event_left r (none_broken n);
          holds = holds_taken r n;
        }
    lays (WriterCall.writes_bytes s) n =
        let m = on_event s n in
        record {
          bytes = record_bytes (record_of s).event (record_of s).site;
          long = refl;
          inside = record_inside (record_of s) m;
          answer = bytes_reply s (none_broken n);
          left = bytes_left s (none_broken n);
          holds = holds_taken (record_of s) m;
        }
    lays WriterCall.closes n =
        let size = k.size in
        record {
          bytes = trailer_for h;
          long = refl;
          inside = omega (arith, (close_fits room at (depth h) n).1);
          answer = closing_reply_lem (none_broken n);
          left = closing_left (none_broken n);
          holds = holds_closed n;
        }
