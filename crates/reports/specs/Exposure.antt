-- What is printed for a trace: a line with its mean exposure, or where it is refused only the refusal.
use Rattle.std.specs.Prelude.{List, ◌++◌, ℕ, Ok, Err}
use Rattle.event.specs.Numbers.{number_of}
use Rattle.text.specs.Text.{ascii, decimal}
use Rattle.lines.specs.Lines.{refusal_line}
use Rattle.trace_exposure.specs.Answers.{TraceExposure}
use Rattle.trace_exposure.specs.TraceExposure.{trace_exposure_of}

unfoldable pub exposure_line : (quotient remainder divisor : ℕ) → List ℕ
exposure_line quotient remainder divisor =
    ascii "exposure " ++ decimal quotient ++ ascii " " ++ decimal remainder ++ ascii " " ++ decimal divisor ++ ascii "\n"

abbrev pub report_for : TraceExposure → List ℕ
report_for (Err r) = refusal_line (number_of r.refusal) r.at
report_for (Ok m) = exposure_line m.quotient m.remainder m.divisor

unfoldable pub report_of : List ℕ → List ℕ
report_of trace = report_for (trace_exposure_of trace)
