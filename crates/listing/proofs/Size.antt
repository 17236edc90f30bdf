-- No report is longer than 436,856 bytes, whatever the trace and the area, so in that much room it is whole.
use Rattle.std.specs.Prelude.{Ok, Err}
use mathlib.Core.Path.{◌≡◌, refl}
use mathlib.Core.Bool.{Bool, true, false, cond}
use mathlib.Core.List.{List, [], ◌∷◌, ◌++◌}
use Prim.Native.Nat.{ℕ, suc, ◌+◌, ◌*◌, ◌≤◌}
use native.Mathlib.Omega.{arith}
use lib.ListN.{length, length-append}
use Rattle.event.specs.declared.Record.{Record}
use Rattle.event.specs.declared.Fields.{Fields}
use Rattle.event.specs.Answers.{Answer}
use Rattle.event.specs.Numbers.{fields_of, number_of}
use Rattle.history.specs.Given.{reported}
use Rattle.trace.specs.Answers.{TraceCheck}
use Rattle.trace.specs.Records.{lines_in, events_in}
use Rattle.verdict.specs.Verdict.{trace_check, history_of, answers_of, verdict_for, verdict_of, verdict_reply}
use Rattle.text.specs.Text.{out, put}
use Rattle.lines.specs.Lines.{head_line, foot_line}
use Rattle.finding_lines.specs.Lines.{is_printed, field, values, columns, finding_line}
use Rattle.listing.specs.Report.{finding_lines, report_for, report_of}
use Rattle.text.proofs.Decimal.{decimal_length}
use Rattle.text.proofs.Filled.{Whole, whole_put}
use Rattle.lines.proofs.Size.{head_size, foot_size, refusal_size}
use Rattle.finding_lines.proofs.Names.{name_size}
use Rattle.listing.proofs.Area.{events_few}

-- a finding line: six numbers, a name, six blanks and the line feed
columns_size : (event site : ℕ) (f : Fields) → length (columns event site f) ≤ 80
unfolding field values columns
columns_size event site f =
    simp length-append
    (omega (
      arith,
      decimal_length event,
      decimal_length site,
      name_size f.kind,
      decimal_length f.lost,
      decimal_length f.kept,
      decimal_length f.moment,
      decimal_length f.store,
    ))

line_size : (event site : ℕ) (f : Fields) → length (finding_line event site f) ≤ 80
unfolding finding_line
line_size event site f = go (is_printed f.kind)
  where
    go : (b : Bool) → length (cond b (columns event site f) []) ≤ 80
    go true = columns_size event site f
    go false = omega arith

-- one for each event at most
lines_size : (event : ℕ) (given : List Record) (found : List Answer) → length (finding_lines event given found) ≤ 80 * length given
unfolding finding_lines
lines_size event [] found = omega arith
lines_size event (r ∷ rest) [] = omega arith
lines_size event (r ∷ rest) (Err x ∷ found) = omega (arith, lines_size (suc event) rest found)
lines_size event (r ∷ rest) (Ok f ∷ found) =
    simp length-append (omega (arith, line_size event r.site (fields_of f), lines_size (suc event) rest found))

-- head, at most 5,460 lines, and foot
abbrev pub longest_report : ℕ
longest_report = 41 + 80 * 5460 + 15

parts_size : (head lines foot : List ℕ) → length head ≤ 41 → length lines ≤ 80 * 5460 → length foot ≤ 15 → length (head ++ lines ++ foot) ≤ longest_report
parts_size head lines foot h k l = simp length-append (omega arith)

pub report_size : (trace area : List ℕ) → length (report_of trace area) ≤ longest_report
unfolding report_of verdict_of
report_size trace area = go (trace_check trace area) refl
  where
    go : (c : TraceCheck) → trace_check trace area ≡ c → length (report_for (verdict_reply (verdict_for c (history_of trace) (answers_of trace))) trace) ≤ longest_report
    go (Ok _) e =
        let given = events_in trace in
        let found = answers_of trace in
        parts_size (head_line (length (history_of trace)) (lines_in trace)) (finding_lines 1 given found) (foot_line (reported found))
        (head_size (length (history_of trace)) (lines_in trace))
        (omega (arith, lines_size 1 given found, events_few trace area e))
        (foot_size (reported found))
    go (Err r) e = omega (arith, refusal_size (number_of r.refusal) r.at)

-- so where there is room for so many bytes, the whole report is put, and the bytes beyond do not change
pub report_whole : (trace area d : List ℕ) {text : List ℕ} {n : ℕ} → longest_report ≤ length d → out text n ≡ put (report_of trace area) (out d 0) →
    Whole (report_of trace area) d text n
report_whole trace area d room e = whole_put (report_of trace area) d (omega (arith, report_size trace area)) e
