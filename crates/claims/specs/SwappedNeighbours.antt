-- Request 13: neighbours that may change places. Over every list of events given from the run of every asked line count, refused ones
-- among them, and over every trace. `in_turn before a between b later` is the list given, and `in_turn before b between a later` the same
-- with the two exchanged; what is given between them is refused, and in a trace there is nothing between them.
use Rattle.std.specs.Prelude.{◌≡◌, true, ◌||◌, ◌≢◌, ◌↔◌, List, [], ◌∷◌, ◌++◌, map, ℕ, suc, ◌*◌, ◌<◌, length, take, drop}
use Rattle.event.specs.declared.Event.{Event}
use Rattle.event.specs.declared.Record.{Record}
use Rattle.event.specs.Reply.{Reply}
use Rattle.codec.specs.Codec.{finding_size}
use Rattle.records.specs.Record.{record_of}
use Rattle.history.specs.History.{OfNoBytes, stores, writes_back}
use Rattle.history.specs.Refused.{NoneBroken}
use Rattle.history.specs.Given.{window_of}
use Rattle.history.specs.Swap.{MaySwap, Neighbours, in_turn, exchanged}
use Rattle.engine.specs.Call.{ask_of, close_of}
use Rattle.engine.specs.Reply.{asked_reply, closing_reply}
use Rattle.exposure.specs.Exposure.{exposure_of, exposure_reply}
use Rattle.trailer.specs.Trailer.{trailer_of, file_limits}
use Rattle.trace.specs.Records.{lines_in, events_in}
use Rattle.verdict.specs.Verdict.{verdict_of, verdict_reply, area_after}
use Rattle.trace_exposure.specs.TraceExposure.{trace_exposure_of, trace_exposure_reply}
use Rattle.trace_interval.specs.TraceInterval.{trace_interval_of, trace_interval_reply}
use Rattle.text.specs.Cut.{cut}
use Rattle.finding_lines.specs.declared.Row.{Row}
use Rattle.finding_lines.specs.Rows.{rows_from}
use Rattle.finding_lines.specs.Area.{line_of}
use Rattle.listing.specs.Report.{report_of}
use Rattle.page_layout.specs.Pages.{pages_with, pages_of}
use Rattle.claims.specs.After.{run_from, taken_from, replies_from}
use Rattle.claims.specs.SharedRanges.{record_after}
use Rattle.claims.specs.WhereClosed.{epochs_answered}
use Rattle.claims.specs.Renamed.{renamed_finding, renamed_asked, renamed_with_sites, records_swapped, findings_swapped, renamed_row, rows_swapped}

-- neighbours given after these events, which may change places
abbrev pub NeighboursAfter : (asked : ℕ) → List Record → Record → List Record → Record → Type 0
NeighboursAfter asked before a between b = Neighbours (window_of asked) (taken_from asked before) a between b

-- the number that an event has after the exchange
abbrev pub new_number : (asked : ℕ) → List Record → ℕ → ℕ
new_number asked before = exchanged (suc (length (taken_from asked before)))

-- what the events get in either order
pub record Travels (asked : ℕ) (before : List Record) (a : Record) (between : List Record) (b : Record) (later : List Record) : Type 0 where
  -- the findings of a and b, what those between them get, and what those behind them get
  pub first : List ℕ
  pub second : List ℕ
  pub refusals : List Reply
  pub rest : List Reply
  pub places : length refusals ≡ length between
  pub given : replies_from asked (in_turn before a between b later) ≡ in_turn (replies_from asked before) (Reply.values first) refusals (Reply.values second) rest
  -- every event before them and between them gets what it got; the two findings travel with their events; every event behind them gets
  -- what it got, with the two numbers exchanged
  pub exchanged : replies_from asked (in_turn before b between a later) ≡
      in_turn (replies_from asked before) (Reply.values second) refusals (Reply.values first) (map (renamed_finding (new_number asked before)) rest)
  -- the two findings name no event: moment and store are 0
  pub first_names : drop 3 first ≡ 0 ∷ 0 ∷ []
  pub second_names : drop 3 second ≡ 0 ∷ 0 ∷ []
  -- the accepted events are the same, with the two exchanged
  pub newer : List Record
  pub taken : taken_from asked (in_turn before a between b later) ≡ newer ++ (b ∷ a ∷ taken_from asked before)
  pub taken_exchanged : taken_from asked (in_turn before b between a later) ≡ newer ++ (a ∷ b ∷ taken_from asked before)

-- a trace that the judge accepts, with the record that has so many before it and the next one exchanged
pub record SwappedTrace (trace area : List ℕ) (before : ℕ) : Type 0 where
  -- its events are those of the trace, with the two exchanged
  pub first : List Record
  pub later : List Record
  pub a : Record
  pub b : Record
  pub place : length first ≡ before
  pub events : events_in trace ≡ in_turn first a [] b later
  pub events_exchanged : events_in (records_swapped before trace) ≡ in_turn first b [] a later
  pub window : lines_in (records_swapped before trace) ≡ lines_in trace
  -- the findings area: the two findings are exchanged, with their sites, and in those behind them the two numbers are
  pub area_exchanged : area_after (records_swapped before trace) area ≡ findings_swapped before (trailer_of trace).count (area_after trace area)
  -- the findings that are shown, and how many
  pub rows : rows_from 0 (trailer_of trace).count (area_after (records_swapped before trace) area) ≡
      rows_swapped before (trailer_of trace).count (area_after trace area)
  pub as_many : length (rows_swapped before (trailer_of trace).count (area_after trace area)) ≡ length (rows_from 0 (trailer_of trace).count (area_after trace area))
  -- the listing: head and foot stay, and between them are the lines of these findings
  pub head : List ℕ
  pub foot : List ℕ
  pub listing : cut (report_of trace area) ≡ head ∷ (map line_of (rows_from 0 (trailer_of trace).count (area_after trace area)) ++ (foot ∷ []))
  pub listing_exchanged : cut (report_of (records_swapped before trace) area) ≡
      head ∷ (map line_of (rows_swapped before (trailer_of trace).count (area_after trace area)) ++ (foot ∷ []))
  -- the pages: those of these findings, as many as they were
  pub pages : pages_of (take (finding_size * (trailer_of trace).count) (area_after trace area)) ≡
      pages_with (rows_from 0 (trailer_of trace).count (area_after trace area))
  pub pages_exchanged : pages_of (take (finding_size * (trailer_of trace).count) (area_after (records_swapped before trace) area)) ≡
      pages_with (rows_swapped before (trailer_of trace).count (area_after trace area))
  -- the mean exposure, and the interval of a byte, with the sites that it had
  pub exposure : trace_exposure_reply (trace_exposure_of (records_swapped before trace)) ≡ trace_exposure_reply (trace_exposure_of trace)
  pub intervals : (byte : ℕ) → trace_interval_reply (trace_interval_of (records_swapped before trace) byte) ≡
      renamed_with_sites (Rattle.history.specs.Swap.exchanged (suc before)) (trace_interval_reply (trace_interval_of trace byte))

pub record SwappedNeighbours : Type 0 where
  -- the condition is the same either way round, and a store or a write-back of no bytes touches no line
  pub either_way : {a b : Event} → MaySwap a b → MaySwap b a
  pub no_bytes : {a : Event} (b : Event) → OfNoBytes a → stores a || writes_back a ≡ true → stores b || writes_back b ≡ true → MaySwap a b
  -- the two numbers are exchanged, every other number stays, and so does 0, which names no event
  pub lower : (i : ℕ) → exchanged i i ≡ suc i
  pub upper : (i : ℕ) → exchanged i (suc i) ≡ i
  pub others : (i n : ℕ) → n ≢ i → n ≢ suc i → exchanged i n ≡ n
  pub zero : (i : ℕ) → exchanged (suc i) 0 ≡ 0
  -- both are accepted the other way round, so what is said here holds both ways
  pub accepted : (asked : ℕ) (before : List Record) {a : Record} {between : List Record} {b : Record} →
      NeighboursAfter asked before a between b → NeighboursAfter asked before b between a
  -- the answers
  pub answers : (asked : ℕ) (before : List Record) {a : Record} {between : List Record} {b : Record} →
      NeighboursAfter asked before a between b → (later : List Record) → Travels asked before a between b later
  -- a byte asked after both: the same epochs, and the same events by their new numbers; a byte past the window is refused as it was
  pub intervals : (asked : ℕ) (before : List Record) {a : Record} {between : List Record} {b : Record} →
      NeighboursAfter asked before a between b → (later : List Record) (byte : ℕ) →
      asked_reply (ask_of (run_from asked (in_turn before b between a later)) byte) ≡
      renamed_asked (new_number asked before) (asked_reply (ask_of (run_from asked (in_turn before a between b later)) byte))
  pub epochs : (asked : ℕ) (before : List Record) {a : Record} {between : List Record} {b : Record} →
      NeighboursAfter asked before a between b → (later : List Record) (byte : ℕ) →
      epochs_answered (asked_reply (ask_of (run_from asked (in_turn before b between a later)) byte)) ≡
      epochs_answered (asked_reply (ask_of (run_from asked (in_turn before a between b later)) byte))
  -- the mean exposure and the totals at closing
  pub exposure : (asked : ℕ) (before : List Record) {a : Record} {between : List Record} {b : Record} →
      NeighboursAfter asked before a between b → (later : List Record) →
      exposure_reply (exposure_of (run_from asked (in_turn before b between a later))) ≡ exposure_reply (exposure_of (run_from asked (in_turn before a between b later)))
  pub closing : (asked : ℕ) (before : List Record) {a : Record} {between : List Record} {b : Record} →
      NeighboursAfter asked before a between b → (later : List Record) →
      closing_reply (close_of (run_from asked (in_turn before b between a later))) ≡ closing_reply (close_of (run_from asked (in_turn before a between b later)))
  -- a trace whose file breaks no limit, with two records exchanged that may change places: it is accepted, with the same totals, exactly
  -- if the trace is
  pub exactly : (trace area : List ℕ) (before : ℕ) → NoneBroken (file_limits trace) → suc before < (trailer_of trace).count →
      MaySwap (record_of (record_after before trace)).event (record_of (record_after (suc before) trace)).event → (totals : List ℕ) →
      (verdict_reply (verdict_of (records_swapped before trace) area) ≡ Reply.values totals) ↔ (verdict_reply (verdict_of trace area) ≡ Reply.values totals)
  -- and then its findings area, its listing and its pages are those of the trace, with the two findings exchanged
  pub traces : (trace area totals : List ℕ) (before : ℕ) → suc before < (trailer_of trace).count →
      MaySwap (record_of (record_after before trace)).event (record_of (record_after (suc before) trace)).event →
      verdict_reply (verdict_of trace area) ≡ Reply.values totals → SwappedTrace trace area before
  -- which lines change: not that of an event that is none of the two and whose finding names none of them
  pub same_row : (i : ℕ) (row : Row) → row.event ≢ i → row.event ≢ suc i → row.fields.moment ≢ i → row.fields.moment ≢ suc i →
      row.fields.store ≢ i → row.fields.store ≢ suc i → renamed_row (exchanged i) row ≡ row
