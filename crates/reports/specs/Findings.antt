-- What is written for a trace: the bytes of its findings, or where it is refused only the refusal.
use Rattle.std.specs.Prelude.{List, ℕ, Ok, Err}
use Rattle.event.specs.Numbers.{number_of}
use Rattle.trace.specs.Records.{events_in}
use Rattle.verdict.specs.Answers.{Verdict}
use Rattle.verdict.specs.Verdict.{answers_of, findings_bytes, verdict_of}
use Rattle.lines.specs.Lines.{refusal_line}

abbrev pub report_for : Verdict → List ℕ → List ℕ
report_for (Err r) trace = refusal_line (number_of r.refusal) r.at
report_for (Ok t) trace = findings_bytes (events_in trace) (answers_of trace)

unfoldable pub report_of : (trace area : List ℕ) → List ℕ
report_of trace area = report_for (verdict_of trace area) trace
