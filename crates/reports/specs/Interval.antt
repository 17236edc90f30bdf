-- What is printed for a byte and a trace: the byte's persist interval, with its epochs and its events, and the site of each event named; where
-- the trace or the byte is refused, only the refusal.
use Rattle.std.specs.Prelude.{List, ◌++◌, ℕ, drop, Ok, Err}
use Rattle.event.specs.Numbers.{number_of}
use Rattle.codec.specs.Codec.{u16_at}
use Rattle.text.specs.Text.{ascii, decimal}
use Rattle.lines.specs.Lines.{refusal_line}
use Rattle.interval_lines.specs.Lines.{interval_text}
use Rattle.trace_interval.specs.Answers.{TraceInterval}
use Rattle.trace_interval.specs.TraceInterval.{trace_interval_of}

-- an input has the byte's number in two bytes, the lower first, and then the trace
abbrev pub byte_in : List ℕ → ℕ
byte_in input = u16_at input 0

abbrev pub trace_in : List ℕ → List ℕ
trace_in input = drop 2 input

abbrev pub report_for : (byte : ℕ) → TraceInterval → List ℕ
report_for byte (Err r) = refusal_line (number_of r.refusal) r.at
report_for byte (Ok k) = ascii "byte " ++ decimal byte ++ ascii " " ++ interval_text k.interval k.sites

unfoldable pub report_of : List ℕ → List ℕ
report_of input = report_for (byte_in input) (trace_interval_of (trace_in input) (byte_in input))
