-- The mean exposure or the refusal in the text.
use Rattle.std.specs.Prelude.{Ok, Err}
use mathlib.Core.Path.{◌≡◌}
use mathlib.Core.List.{List}
use Prim.Native.Nat.{ℕ, ◌≤◌}
use native.Mathlib.Omega.{arith}
use lib.ListN.{length, length-append}
use Rattle.event.specs.declared.Refusal.{Refusal}
use Rattle.event.specs.Numbers.{number_of}
use Rattle.text.specs.Text.{out, put}
use Rattle.text.specs.Cursor.{Puts}
use Rattle.text.specs.declared.Cursor.{Cursor}
use Rattle.text.proofs.Decimal.{decimal_length}
use Rattle.text.proofs.Filled.{Whole, whole_put}
use Rattle.lines.specs.Lines.{refusal_line}
use Rattle.lines.proofs.Size.{refusal_size}
use Rattle.trace_exposure.specs.Answers.{TraceExposure}
use Rattle.trace_exposure.specs.TraceExposure.{trace_exposure_of}
use Rattle.reports.specs.Exposure.{exposure_line, report_for, report_of}
use Rattle.exposure.specs.Answers.{mean}
use Rattle.event.specs.Answers.{refused_at}

-- the refusal is put, or the mean
module _ (trace : List ℕ) {o p : Cursor} {answer : TraceExposure} (answers : answer ≡ trace_exposure_of trace) where
  pub refusal_put : {x : Refusal} {n number : ℕ} → answer ≡ refused_at x n → number ≡ number_of x → Puts (refusal_line number n) o p → Puts (report_of trace) o p
  unfolding report_of
  refusal_put e k l = rw (← answers, e, ← k) l

  pub mean_put : {quotient remainder divisor : ℕ} → answer ≡ mean quotient remainder divisor → Puts (exposure_line quotient remainder divisor) o p →
      Puts (report_of trace) o p
  unfolding report_of
  mean_put e l = rw (← answers, e) l

-- no report is longer: words and numbers of ten digits at most
abbrev longest : ℕ
longest = 42

mean_size : (quotient remainder divisor : ℕ) → length (exposure_line quotient remainder divisor) ≤ longest
unfolding exposure_line
mean_size quotient remainder divisor = simp length-append (omega (arith, decimal_length quotient, decimal_length remainder, decimal_length divisor))

report_size : (trace : List ℕ) → length (report_of trace) ≤ longest
unfolding report_of
report_size trace = go (trace_exposure_of trace)
  where
    go : (e : TraceExposure) → length (report_for e) ≤ longest
    go (Err r) = omega (arith, refusal_size (number_of r.refusal) r.at)
    go (Ok m) = mean_size m.quotient m.remainder m.divisor

-- so where there is room for so many bytes, the whole report is put
pub report_whole : (trace d : List ℕ) {text : List ℕ} {n : ℕ} → longest ≤ length d → out text n ≡ put (report_of trace) (out d 0) →
    Whole (report_of trace) d text n
report_whole trace d room e = whole_put (report_of trace) d (omega (arith, report_size trace)) e
