-- Demand 1, for fresh windows, events, bytes asked, closings, records and traces, for a writer's calls, for pages and for mean exposure:
-- whatever breaks a stated limit is refused by the first number that applies, and by no number otherwise; run, findings area, writer and
-- its area, and page area are then what they were. The numbers 1 to 14 are document 01's; so is the record's number beside each. 15 is
-- request 1's, 16 is request 3's, 17 is request 4's, 18 is request 8's. Request 5 retired 8.
use Rattle.std.specs.Prelude.{◌≡◌, ◌≢◌, ◌⊎◌, List, [], ◌∷◌, ◌++◌, ℕ, suc, ◌+◌, ◌≤◌, ◌<◌, length, drop, get_or, Ok}
use Rattle.event.specs.declared.Event.{Event}
use Rattle.event.specs.declared.Interval.TheVariants.{Closed}
use Rattle.event.specs.declared.Record.{Record}
use Rattle.event.specs.declared.Finding.{Finding}
use Rattle.event.specs.declared.Refusal.{Refusal}
use Rattle.event.specs.Numbers.{number_of}
use Rattle.event.specs.Reply.{Reply, finding_values}
use Rattle.window.specs.Window.{most_lines, window_bytes}
use Rattle.codec.specs.Codec.{u16_at}
use Rattle.records.specs.Record.{parsed, read_reply}
use Rattle.history.specs.History.{History}
use Rattle.history.specs.Interval.{interval_of}
use Rattle.history.specs.Transaction.{depth}
use Rattle.history.specs.View.{View, of_history}
use Rattle.history.specs.Refused.{Limit, limits_by, limit_numbers, First, NoneBroken}
use Rattle.history.specs.Given.{window_of, RefusedBy, Accepted}
use Rattle.events.specs.Give.{give_of}
use Rattle.engine.specs.Call.{empty_run, fresh_of, ask_of, close_of}
use Rattle.engine.specs.Reply.{window_reply, given_reply, asked_reply, closing_reply}
use Rattle.exposure.specs.Exposure.{exposure_of, exposure_reply}
use Rattle.trailer.specs.Trailer.{trailer_size, trailer_of, file_limits, opened_of, opened_reply}
use Rattle.trace.specs.Checked.{read_limits}
use Rattle.trace.specs.Records.{lines_in}
use Rattle.verdict.specs.Verdict.{trace_limits, verdict_of, verdict_reply}
use Rattle.trace_exposure.specs.TraceExposure.{trace_exposure_of, trace_exposure_reply}
use Rattle.file.specs.declared.Writer.{Writer}
use Rattle.file.specs.Limits.{start_limits, write_limits, bytes_limits, close_limits}
use Rattle.file.specs.Write.{writer_with, records_end, view_of, started_of, area_started, written_of, area_written, bytes_written_of, area_bytes_written, closed_of, area_closed}
use Rattle.file.specs.Reply.{start_reply, written_reply, closed_reply}
use Rattle.page_layout.specs.Pages.{findings_in, pages_of}
use Rattle.pages.specs.Limits.{whole_limits, damage_limits, room_limits}
use Rattle.pages.specs.Paged.{paged_of, paged_reply, page_area_after}
use Rattle.claims.specs.After.{run_from, taken_from}
use Rattle.claims.specs.MeanExposure.{NoneClosed}
use Rattle.claims.specs.Paging.{NoneDamaged, DamagedFirst, NotPaged}
use Rattle.claims.specs.Traces.{record_limits, StopsAt, TakesAll, Rejected}

pub record Demand1 : Type 0 where
  -- of any limits in their order, one applies first or none applies
  pub decided : (limits : List Limit) → ((x : Refusal) × First limits x) ⊎ NoneBroken limits
  -- a fresh window. 4: lines outside 1 to 64; a run of one line is handed over
  pub window_refused : (asked : ℕ) → (asked ≡ 0) ⊎ (most_lines < asked) →
      (window_reply (fresh_of asked) ≡ Reply.refused 4 0) × ((fresh_of asked).run ≡ empty_run 1)
  pub window_taken : (asked : ℕ) → 1 ≤ asked → asked ≤ most_lines →
      (window_reply (fresh_of asked) ≡ Reply.values []) × ((fresh_of asked).run ≡ empty_run asked)
  -- an event given singly: the first of 9, 18, 10, 11, 12 that applies after the accepted events; the run is as it was
  pub event_numbers : (lines : ℕ) (h : History) (e : Event) →
      limit_numbers (limits_by (of_history lines h) e) ≡ 9 ∷ 18 ∷ 10 ∷ 11 ∷ 12 ∷ []
  pub event_refused : (asked : ℕ) (given : List Record) (r : Record) {x : Refusal} → RefusedBy (window_of asked) (taken_from asked given) r x →
      (given_reply (give_of (run_from asked given) r) ≡ Reply.refused (number_of x) 0) ×
      ((give_of (run_from asked given) r).run ≡ run_from asked given)
  pub event_taken : (asked : ℕ) (given : List Record) (r : Record) → Accepted (window_of asked) (taken_from asked given) r →
      (f : Finding) × (given_reply (give_of (run_from asked given) r) ≡ Reply.values (finding_values f))
  -- a byte asked. 9: it is past the window
  pub byte_refused : (asked : ℕ) (given : List Record) (byte : ℕ) → window_bytes (window_of asked) ≤ byte →
      asked_reply (ask_of (run_from asked given) byte) ≡ Reply.refused 9 0
  pub byte_taken : (asked : ℕ) (given : List Record) (byte number at : ℕ) → byte < window_bytes (window_of asked) →
      asked_reply (ask_of (run_from asked given) byte) ≢ Reply.refused number at
  -- a closing. 13: a transaction is open
  pub closing_refused : (asked : ℕ) (given : List Record) → depth (taken_from asked given) ≢ 0 →
      closing_reply (close_of (run_from asked given)) ≡ Reply.refused 13 0
  pub closing_taken : (asked : ℕ) (given : List Record) (number at : ℕ) → depth (taken_from asked given) ≡ 0 →
      closing_reply (close_of (run_from asked given)) ≢ Reply.refused number at
  -- a record read by itself: the first of 6 and 7 that applies, or kind, A address, A length, B address, B length and site as its bytes
  -- have them
  pub read_refused : (s : List ℕ) {x : Refusal} → First (read_limits s) x → read_reply (parsed s) ≡ Reply.refused (number_of x) 0
  pub read_taken : (s : List ℕ) → NoneBroken (read_limits s) →
      read_reply (parsed s) ≡ Reply.values (get_or s 0 0 ∷ u16_at s 2 ∷ u16_at s 4 ∷ u16_at s 6 ∷ u16_at s 8 ∷ u16_at s 10 ∷ [])
  -- a trailer read: the first of 1, 2, 3, 4, 5 that applies, or offset, count and lines
  pub trailer_refused : (s : List ℕ) {x : Refusal} → First (file_limits s) x → opened_reply (opened_of s) ≡ Reply.refused (number_of x) 0
  pub trailer_taken : (s : List ℕ) → NoneBroken (file_limits s) →
      opened_reply (opened_of s) ≡ Reply.values ((trailer_of s).offset ∷ (trailer_of s).count ∷ (trailer_of s).lines ∷ [])
  -- a trace: the first of 1, 2, 3, 4, 5, 14 that applies, at 0
  pub trace_numbers : (trace area : List ℕ) → limit_numbers (trace_limits trace area) ≡ 1 ∷ 2 ∷ 3 ∷ 4 ∷ 5 ∷ 14 ∷ []
  pub trace_refused : (trace area : List ℕ) {x : Refusal} → First (trace_limits trace area) x → Rejected trace area (number_of x) 0
  -- else the first record to which one of 6, 7, 9, 18, 10, 11, 12 applies, by the first that does, at the record's number from 1
  pub record_numbers : (lines : ℕ) (h : History) (s : List ℕ) →
      limit_numbers (record_limits lines h s) ≡ 6 ∷ 7 ∷ 9 ∷ 18 ∷ 10 ∷ 11 ∷ 12 ∷ []
  pub record_refused : (trace area : List ℕ) {x : Refusal} {n : ℕ} → NoneBroken (trace_limits trace area) → StopsAt trace x n →
      Rejected trace area (number_of x) n
  pub records_decided : (trace : List ℕ) → ((x : Refusal) × (n : ℕ) × StopsAt trace x n) ⊎ ((h : History) × TakesAll trace h)
  -- else 13, at 0
  pub trace_open : (trace area : List ℕ) {h : History} → NoneBroken (trace_limits trace area) → TakesAll trace h → depth h ≢ 0 →
      Rejected trace area 13 0
  -- else by no number
  pub trace_taken : (trace area : List ℕ) {h : History} (number at : ℕ) → NoneBroken (trace_limits trace area) → TakesAll trace h →
      depth h ≡ 0 → verdict_reply (verdict_of trace area) ≢ Reply.refused number at
  -- a writer's start: the first of 4, 2, 15 that applies, with no writer and the area as it was; or the writer, and the preamble at the
  -- area's start
  pub start_numbers : (room preamble lines : ℕ) → limit_numbers (start_limits room preamble lines) ≡ 4 ∷ 2 ∷ 15 ∷ []
  pub start_refused : (area preamble : List ℕ) (lines : ℕ) {x : Refusal} → First (start_limits (length area) (length preamble) lines) x →
      (start_reply (started_of area preamble lines) ≡ Reply.refused (number_of x) 0) × (area_started area preamble lines ≡ area)
  pub start_taken : (area preamble : List ℕ) (lines : ℕ) → NoneBroken (start_limits (length area) (length preamble) lines) →
      (started_of area preamble lines ≡ Ok (writer_with lines (length preamble) 0 0)) ×
      (area_started area preamble lines ≡ preamble ++ drop (length preamble) area)
  -- an event given to any writer: the first of 2, 9, 18, 10, 11, 12, 15 that applies, with writer and area as they were
  pub write_numbers : (room at : ℕ) (v : View) (e : Event) → limit_numbers (write_limits room at v e) ≡ 2 ∷ 9 ∷ 18 ∷ 10 ∷ 11 ∷ 12 ∷ 15 ∷ []
  pub write_refused : (area : List ℕ) (w : Writer) (r : Record) {x : Refusal} →
      First (write_limits (length area) (records_end w) (view_of w) r.event) x →
      (written_reply (written_of area w r) ≡ Reply.refused (number_of x) 0) × ((written_of area w r).writer ≡ w) × (area_written area w r ≡ area)
  pub write_taken : (area : List ℕ) (w : Writer) (r : Record) → NoneBroken (write_limits (length area) (records_end w) (view_of w) r.event) →
      written_reply (written_of area w r) ≡ Reply.values []
  -- an event that comes as bytes: 6 and 7 after 2 and before 9
  pub bytes_numbers : (room at : ℕ) (v : View) (s : List ℕ) →
      limit_numbers (bytes_limits room at v s) ≡ 2 ∷ 6 ∷ 7 ∷ 9 ∷ 18 ∷ 10 ∷ 11 ∷ 12 ∷ 15 ∷ []
  pub bytes_refused : (area : List ℕ) (w : Writer) (s : List ℕ) {x : Refusal} → First (bytes_limits (length area) (records_end w) (view_of w) s) x →
      (written_reply (bytes_written_of area w s) ≡ Reply.refused (number_of x) 0) × ((bytes_written_of area w s).writer ≡ w) ×
      (area_bytes_written area w s ≡ area)
  pub bytes_taken : (area : List ℕ) (w : Writer) (s : List ℕ) → NoneBroken (bytes_limits (length area) (records_end w) (view_of w) s) →
      written_reply (bytes_written_of area w s) ≡ Reply.values []
  -- a file closed by any writer: the first of 13, 15 that applies, with the area as it was
  pub file_numbers : (room at depth : ℕ) → limit_numbers (close_limits room at depth) ≡ 13 ∷ 15 ∷ []
  pub file_refused : (area : List ℕ) (w : Writer) {x : Refusal} → First (close_limits (length area) (records_end w) w.depth) x →
      (closed_reply (closed_of area w) ≡ Reply.refused (number_of x) 0) × (area_closed area w ≡ area)
  pub file_taken : (area : List ℕ) (w : Writer) → NoneBroken (close_limits (length area) (records_end w) w.depth) →
      closed_reply (closed_of area w) ≡ Reply.values ((records_end w + trailer_size) ∷ [])
  -- pages of a findings area: 5, at 0; the page area is as it was after this and every other refusal
  pub pages_numbers : (findings : List ℕ) → limit_numbers (whole_limits findings) ≡ 5 ∷ []
  pub pages_refused : (findings area : List ℕ) {x : Refusal} → First (whole_limits findings) x → NotPaged findings area (number_of x) 0
  -- else the first of 6 and 7 that applies to the first finding that is damaged, at its position from 1
  pub damage_numbers : (before : ℕ) (findings : List ℕ) → limit_numbers (damage_limits before findings) ≡ 6 ∷ 7 ∷ []
  pub damage_refused : (findings area : List ℕ) {x : Refusal} {before : ℕ} → NoneBroken (whole_limits findings) → DamagedFirst findings x before →
      NotPaged findings area (number_of x) (suc before)
  pub damage_decided : (findings : List ℕ) → ((x : Refusal) × (before : ℕ) × DamagedFirst findings x before) ⊎ NoneDamaged (findings_in findings) findings
  -- else 16, at 0
  pub page_room_numbers : (room size : ℕ) → limit_numbers (room_limits room size) ≡ 16 ∷ []
  pub page_room_refused : (findings area : List ℕ) {x : Refusal} → NoneBroken (whole_limits findings) → NoneDamaged (findings_in findings) findings →
      First (room_limits (length area) (length (pages_of findings))) x → NotPaged findings area (number_of x) 0
  -- else by no number: the length written; the pages are at the page area's start, and the bytes beyond do not change
  pub pages_taken : (findings area : List ℕ) → NoneBroken (whole_limits findings) → NoneDamaged (findings_in findings) findings →
      NoneBroken (room_limits (length area) (length (pages_of findings))) →
      (paged_reply (paged_of findings (length area)) ≡ Reply.values (length (pages_of findings) ∷ [])) ×
      (page_area_after findings area ≡ pages_of findings ++ drop (length (pages_of findings)) area)
  -- the mean exposure of a run. 17: no byte of the window is closed
  pub exposure_refused : (asked : ℕ) (given : List Record) → NoneClosed (window_of asked) (taken_from asked given) →
      exposure_reply (exposure_of (run_from asked given)) ≡ Reply.refused 17 0
  pub exposure_taken : (asked : ℕ) (given : List Record) (b opening closing number at : ℕ) → b < window_bytes (window_of asked) →
      interval_of (taken_from asked given) b ≡ Closed opening closing → exposure_reply (exposure_of (run_from asked given)) ≢ Reply.refused number at
  -- of a trace: the first of 1, 2, 3, 4, 5 that applies, at 0
  pub exposure_file_numbers : (trace : List ℕ) → limit_numbers (file_limits trace) ≡ 1 ∷ 2 ∷ 3 ∷ 4 ∷ 5 ∷ []
  pub exposure_file_refused : (trace : List ℕ) {x : Refusal} → First (file_limits trace) x →
      trace_exposure_reply (trace_exposure_of trace) ≡ Reply.refused (number_of x) 0
  -- else the first record to which one of 6, 7, 9, 18, 10, 11, 12 applies, by the first that does, at the record's number
  pub exposure_record_refused : (trace : List ℕ) {x : Refusal} {n : ℕ} → NoneBroken (file_limits trace) → StopsAt trace x n →
      trace_exposure_reply (trace_exposure_of trace) ≡ Reply.refused (number_of x) n
  -- else 13, at 0
  pub exposure_open : (trace : List ℕ) {h : History} → NoneBroken (file_limits trace) → TakesAll trace h → depth h ≢ 0 →
      trace_exposure_reply (trace_exposure_of trace) ≡ Reply.refused 13 0
  -- else 17, at 0
  pub exposure_none : (trace : List ℕ) {h : History} → NoneBroken (file_limits trace) → TakesAll trace h → depth h ≡ 0 → NoneClosed (lines_in trace) h →
      trace_exposure_reply (trace_exposure_of trace) ≡ Reply.refused 17 0
  -- else by no number
  pub exposure_some : (trace : List ℕ) {h : History} (b opening closing number at : ℕ) → NoneBroken (file_limits trace) → TakesAll trace h → depth h ≡ 0 →
      b < window_bytes (lines_in trace) → interval_of h b ≡ Closed opening closing → trace_exposure_reply (trace_exposure_of trace) ≢ Reply.refused number at
