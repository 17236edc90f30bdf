-- All that is printed for a trace: the listing of its events, or the refusal only.
use Rattle.std.specs.Prelude.{List, [], ◌∷◌, ◌++◌, ℕ, suc, length, Ok, Err}
use Rattle.event.specs.declared.Record.{Record}
use Rattle.event.specs.Answers.{Answer}
use Rattle.event.specs.Numbers.{fields_of}
use Rattle.event.specs.Reply.{Reply}
use Rattle.history.specs.Given.{reported}
use Rattle.trace.specs.Records.{lines_in, events_in}
use Rattle.verdict.specs.Verdict.{history_of, answers_of, verdict_of, verdict_reply}
use Rattle.lines.specs.Lines.{head_line, foot_line, refusal_line}
use Rattle.finding_lines.specs.Lines.{finding_line}

-- the line of an event's finding
abbrev pub line_for : ℕ → Record → Answer → List ℕ
line_for event r (Ok f) = finding_line event r.site (fields_of f)
line_for event r (Err x) = []

-- the lines of events, the first of which has this number
unfoldable pub finding_lines : ℕ → List Record → List Answer → List ℕ
finding_lines event [] found = []
finding_lines event (r ∷ rest) [] = []
finding_lines event (r ∷ rest) (a ∷ found) = line_for event r a ++ finding_lines (suc event) rest found

-- the listing of an accepted trace
abbrev pub listing_of : List ℕ → List ℕ
listing_of trace =
    head_line (length (history_of trace)) (lines_in trace) ++ finding_lines 1 (events_in trace) (answers_of trace) ++ foot_line (reported (answers_of trace))

abbrev pub report_for : Reply → List ℕ → List ℕ
report_for (Reply.values totals) trace = listing_of trace
report_for (Reply.refused number at) trace = refusal_line number at

-- what is printed for a trace that is judged into an area
unfoldable pub report_of : (trace area : List ℕ) → List ℕ
report_of trace area = report_for (verdict_reply (verdict_of trace area)) trace
