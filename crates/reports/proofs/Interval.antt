-- The interval or the refusal in the text.
use Rattle.std.specs.Prelude.{Ok, Err}
use mathlib.Core.Path.{◌≡◌}
use mathlib.Core.List.{List, ◌++◌}
use Prim.Native.Nat.{ℕ, ◌≤◌}
use native.Mathlib.Omega.{arith}
use lib.ListN.{length, length-append}
use Rattle.event.specs.declared.NamedInterval.{NamedInterval}
use Rattle.event.specs.declared.Refusal.{Refusal}
use Rattle.event.specs.Numbers.{number_of}
use Rattle.text.specs.Text.{ascii, decimal, out, put}
use Rattle.text.specs.Cursor.{Puts}
use Rattle.text.specs.declared.Cursor.{Cursor}
use Rattle.text.proofs.Decimal.{decimal_length}
use Rattle.text.proofs.Filled.{Whole, whole_put}
use Rattle.lines.specs.Lines.{refusal_line}
use Rattle.lines.proofs.Size.{refusal_size}
use Rattle.interval_lines.specs.Lines.{interval_text}
use Rattle.interval_lines.proofs.Size.{text_size}
use Rattle.trace_interval.specs.declared.Sites.{Sites}
use Rattle.trace_interval.specs.Answers.{TraceInterval, sited}
use Rattle.trace_interval.specs.TraceInterval.{trace_interval_of}
use Rattle.reports.specs.Interval.{byte_in, trace_in, report_for, report_of}
use Rattle.event.specs.Answers.{refused_at}

-- the refusal is put, or the interval
module _ (input : List ℕ) {byte : ℕ} (number : byte ≡ byte_in input) {trace : List ℕ} (rest : trace ≡ trace_in input)
    {answer : TraceInterval} (answers : answer ≡ trace_interval_of trace byte) where
  same_report : report_for byte answer ≡ report_of input
  unfolding report_of
  same_report = rw (answers, rest, number)

  pub refusal_put : {o p : Cursor} {x : Refusal} {n code : ℕ} → answer ≡ refused_at x n → code ≡ number_of x → Puts (refusal_line code n) o p →
      Puts (report_of input) o p
  refusal_put e k l = rw (← same_report, e, ← k) l

  pub known_put : {o p : Cursor} {i : NamedInterval} {s : Sites} → answer ≡ sited i s →
      Puts (ascii "byte " ++ decimal byte ++ ascii " " ++ interval_text i s) o p → Puts (report_of input) o p
  known_put e l = rw (← same_report, e) l

-- no report is longer: words and numbers of ten digits at most
abbrev longest : ℕ
longest = 200

report_size : (input : List ℕ) → length (report_of input) ≤ longest
unfolding report_of
report_size input = go (trace_interval_of (trace_in input) (byte_in input))
  where
    go : (a : TraceInterval) → length (report_for (byte_in input) a) ≤ longest
    go (Err r) = omega (arith, refusal_size (number_of r.refusal) r.at)
    go (Ok k) = simp length-append (omega (arith, decimal_length (byte_in input), text_size k.interval k.sites))

-- so where there is room for so many bytes, the whole report is put
pub report_whole : (input d : List ℕ) {text : List ℕ} {n : ℕ} → longest ≤ length d → out text n ≡ put (report_of input) (out d 0) →
    Whole (report_of input) d text n
report_whole input d room e = whole_put (report_of input) d (omega (arith, report_size input)) e
