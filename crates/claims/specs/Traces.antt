-- A trace: which of its records is refused first, and what the findings area of an accepted one holds.
use Rattle.std.specs.Prelude.{◌≡◌, List, ◌∷◌, ◌++◌, [], map, ℕ, zero, suc, ◌*◌, length, take, drop, Ok}
use Rattle.event.specs.declared.Record.{Record}
use Rattle.event.specs.declared.Finding.{Finding}
use Rattle.event.specs.declared.Refusal.{Refusal}
use Rattle.event.specs.Reply.{Reply, finding_values}
use Rattle.codec.specs.Codec.{finding_bytes, finding_size}
use Rattle.records.specs.Record.{record_size, record_of}
use Rattle.history.specs.History.{History}
use Rattle.history.specs.View.{of_history}
use Rattle.history.specs.Refused.{Limit, limits_by, First, NoneBroken}
use Rattle.events.specs.Give.{give_of}
use Rattle.engine.specs.Call.{fresh_of, close_of}
use Rattle.engine.specs.Reply.{window_reply, given_reply, closing_reply}
use Rattle.trailer.specs.Trailer.{trailer_of}
use Rattle.trace.specs.Records.{record_part, lines_in, records_in, events_in}
use Rattle.trace.specs.Checked.{read_limits}
use Rattle.verdict.specs.Verdict.{area_size, verdict_of, verdict_reply, area_after}
use Rattle.claims.specs.After.{run_from}

-- the limits on a record after the history, in order: 6 and 7 on its bytes, then 9, 18, 10 to 12 on its event
abbrev pub record_limits : (lines : ℕ) → History → List ℕ → List Limit
record_limits lines h s = read_limits s ++ limits_by (of_history lines h) (record_of s).event

-- so many records of 12 bytes, the first with number n, given after the history: number m is the first that is refused, and x
-- refuses it
pub data Stops (lines : ℕ) : (n : ℕ) → History → (count : ℕ) → List ℕ → (x : Refusal) (m : ℕ) → Type 0 where
  here : {n count : ℕ} {h : History} {s : List ℕ} {x : Refusal} → First (record_limits lines h (take record_size s)) x →
      Stops lines n h (suc count) s x n
  later : {n count : ℕ} {h : History} {s : List ℕ} {x : Refusal} {m : ℕ} → NoneBroken (record_limits lines h (take record_size s)) →
      Stops lines (suc n) (record_of (take record_size s) ∷ h) count (drop record_size s) x m →
      Stops lines n h (suc count) s x m

-- they are all taken, and lead to another history
pub data Takes (lines : ℕ) : History → (count : ℕ) → List ℕ → History → Type 0 where
  done : {h : History} {s : List ℕ} → Takes lines h zero s h
  takes : {count : ℕ} {h all : History} {s : List ℕ} → NoneBroken (record_limits lines h (take record_size s)) →
      Takes lines (record_of (take record_size s) ∷ h) count (drop record_size s) all → Takes lines h (suc count) s all

-- the records of a trace, from the fresh window that it is judged from
abbrev pub StopsAt : (trace : List ℕ) → (x : Refusal) (n : ℕ) → Type 0
StopsAt trace x n = Stops (lines_in trace) 1 [] (trailer_of trace).count (record_part (trailer_of trace).offset trace) x n

abbrev pub TakesAll : (trace : List ℕ) → History → Type 0
TakesAll trace h = Takes (lines_in trace) [] (trailer_of trace).count (record_part (trailer_of trace).offset trace) h

-- the trace is refused by this number at this record, and the area is byte for byte as it was
abbrev pub Rejected : (trace area : List ℕ) → (number at : ℕ) → Type 0
Rejected trace area number at = (verdict_reply (verdict_of trace area) ≡ Reply.refused number at) × (area_after trace area ≡ area)

-- a trace accepted with these totals
pub record GivenSingly (trace area totals : List ℕ) : Type 0 where
  -- every record is an event
  pub records : records_in trace ≡ map Ok (events_in trace)
  -- the window that it is judged from is not refused
  pub window : window_reply (fresh_of (lines_in trace)) ≡ Reply.values []
  -- the area holds, for each record in order, the finding that its event gets when the trace's events are given singly from there
  pub finding : (before rest : List Record) (r : Record) → events_in trace ≡ before ++ r ∷ rest →
      (f : Finding) × (given_reply (give_of (run_from (lines_in trace) before) r) ≡ Reply.values (finding_values f)) ×
      (take finding_size (drop (finding_size * length before) (area_after trace area)) ≡ finding_bytes f r.site)
  -- the bytes beyond do not change
  pub beyond : drop (area_size trace) (area_after trace area) ≡ drop (area_size trace) area
  pub size : length (area_after trace area) ≡ length area
  -- the totals are those of closing
  pub closing : closing_reply (close_of (run_from (lines_in trace) (events_in trace))) ≡ Reply.values totals
