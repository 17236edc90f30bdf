-- What the judge answers to a trace and a findings area, and what the area then holds: read off the bytes, by what the accepted
-- events say.
use Rattle.std.specs.Prelude.{List, [], ◌∷◌, ◌++◌, ℕ, ◌*◌, ltb, length, drop, Ok, Err}
use Rattle.event.specs.declared.Record.{Record}
use Rattle.event.specs.declared.Refusal.TheVariants.{AreaTooShort}
use Rattle.event.specs.Answers.{Answer, totals}
use Rattle.event.specs.Reply.{Reply, reply_by, trace_refusal_reply, totals_values}
use Rattle.codec.specs.Codec.{finding_size, finding_bytes}
use Rattle.history.specs.History.{History}
use Rattle.history.specs.Interval.{epoch_at}
use Rattle.history.specs.Refused.{Limit, limit, first_broken}
use Rattle.history.specs.Given.{accepted, answers, reported}
use Rattle.trace.specs.Answers.{TraceCheck}
use Rattle.trailer.specs.Trailer.{trailer_of, file_limits}
use Rattle.trace.specs.Records.{lines_in, records_in, events_in}
use Rattle.trace.specs.Checked.{unless_broken, check_all}
use Rattle.verdict.specs.Answers.{Verdict}

-- the findings area takes 12 times the count
abbrev pub area_size : List ℕ → ℕ
area_size trace = finding_size * (trailer_of trace).count

-- 14 findings area too short
abbrev pub area_limits : (trace area : List ℕ) → List Limit
area_limits trace area = limit (ltb (length area) (area_size trace)) AreaTooShort ∷ []

-- the limits on a trace and an area before any record is looked at: 1, 2, 3, 4, 5, 14
abbrev pub trace_limits : (trace area : List ℕ) → List Limit
trace_limits trace area = file_limits trace ++ area_limits trace area

-- what refuses the trace, if anything does: these, with the number 0; then 6, 7, 9, 18, 10 to 12, record by record; then 13
abbrev pub trace_check : (trace area : List ℕ) → TraceCheck
trace_check trace area = unless_broken (first_broken (trace_limits trace area)) 0 (check_all (lines_in trace) (records_in trace))

-- the same without an area, 14 aside
abbrev pub file_check : List ℕ → TraceCheck
file_check trace = unless_broken (first_broken (file_limits trace)) 0 (check_all (lines_in trace) (records_in trace))

-- the accepted events of a trace, and what each of its events gets, from a fresh window
abbrev pub history_of : List ℕ → History
history_of trace = accepted (lines_in trace) [] (events_in trace)

abbrev pub answers_of : List ℕ → List Answer
answers_of trace = answers (lines_in trace) [] (events_in trace)

-- a refusal with its record's number, or events, fences and the count of findings other than none
abbrev pub verdict_for : TraceCheck → (h : History) → List Answer → Verdict
verdict_for (Err r) h found = Err r
verdict_for (Ok _) h found = totals (length h) (epoch_at h (length h)) (reported found)

unfoldable pub verdict_of : (trace area : List ℕ) → Verdict
verdict_of trace area = verdict_for (trace_check trace area) (history_of trace) (answers_of trace)

-- a trace: the refusal's number and its record's number, or events, fences and the count of findings other than none
abbrev pub verdict_reply : Verdict → Reply
verdict_reply v = reply_by totals_values trace_refusal_reply v

-- the bytes of an event's finding, with its site
abbrev pub bytes_for : Record → Answer → List ℕ
bytes_for r (Ok f) = finding_bytes f r.site
bytes_for r (Err x) = []

-- the findings of events, in order
unfoldable pub findings_bytes : List Record → List Answer → List ℕ
findings_bytes [] found = []
findings_bytes (r ∷ rest) [] = []
findings_bytes (r ∷ rest) (a ∷ found) = bytes_for r a ++ findings_bytes rest found

-- a refused trace leaves the area as it was; an accepted one fills 12 × count bytes, and the bytes beyond do not change
abbrev pub area_for : TraceCheck → (trace area : List ℕ) → List ℕ
area_for (Err r) trace area = area
area_for (Ok _) trace area = findings_bytes (events_in trace) (answers_of trace) ++ drop (area_size trace) area

unfoldable pub area_after : (trace area : List ℕ) → List ℕ
area_after trace area = area_for (trace_check trace area) trace area
