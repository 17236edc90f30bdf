-- Request 4: mean exposure, of any run, after every list of events given from a fresh window, and of every trace.
use Rattle.std.specs.Prelude.{◌≡◌, ◌≢◌, ◌↔◌, List, [], ◌∷◌, ℕ, ◌-◌, ◌*◌, ◌≤◌, ◌<◌}
use Rattle.event.specs.declared.Interval.TheVariants.{Closed}
use Rattle.event.specs.declared.Record.{Record}
use Rattle.event.specs.Reply.{Reply}
use Rattle.window.specs.Window.{window_bytes}
use Rattle.history.specs.History.{History}
use Rattle.history.specs.Interval.{interval_of}
use Rattle.history.specs.Given.{window_of}
use Rattle.tables.specs.Run.{Run}
use Rattle.tables.specs.View.{interval_in, of_run}
use Rattle.engine.specs.Call.{ask_of}
use Rattle.engine.specs.Reply.{asked_reply}
use Rattle.exposure.specs.Exposure.{total, sum_of, closed_count, exposure_in, exposure_of, exposure_reply, IsMean}
use Rattle.trace.specs.Records.{lines_in, events_in}
use Rattle.verdict.specs.Verdict.{verdict_of, verdict_reply}
use Rattle.trace_exposure.specs.TraceExposure.{trace_exposure_of, trace_exposure_reply}
use Rattle.claims.specs.After.{run_from, taken_from}
use Rattle.claims.specs.WhereClosed.{epochs_answered}

-- no byte of the window is closed
abbrev pub NoneClosed : (lines : ℕ) → History → Type 0
NoneClosed lines h = (b opening closing : ℕ) → b < window_bytes lines → interval_of h b ≢ Closed opening closing

-- what a byte gets that is asked after these events, its events dropped
abbrev pub answer_of : ℕ → List Record → ℕ → Reply
answer_of asked given b = epochs_answered (asked_reply (ask_of (run_from asked given) b))

-- what the answer of a byte asked adds: closing epoch less opening epoch, and one byte, where it has both epochs
abbrev pub asked_epochs : Reply → ℕ
asked_epochs (Reply.refused number at) = 0
asked_epochs (Reply.values []) = 0
asked_epochs (Reply.values (opening ∷ [])) = 0
asked_epochs (Reply.values (opening ∷ closing ∷ [])) = closing - opening
asked_epochs (Reply.values (x ∷ y ∷ z ∷ more)) = 0

abbrev pub asked_closed : Reply → ℕ
asked_closed (Reply.refused number at) = 0
asked_closed (Reply.values []) = 0
asked_closed (Reply.values (opening ∷ [])) = 0
asked_closed (Reply.values (opening ∷ closing ∷ [])) = 1
asked_closed (Reply.values (x ∷ y ∷ z ∷ more)) = 0

pub record MeanExposure : Type 0 where
  -- any run whatever: these three numbers are answered exactly where they are the mean of its sums
  pub any_run : (run : Run) (quotient remainder divisor : ℕ) → let bytes = window_bytes (of_run run).lines in
      (exposure_reply (exposure_of run) ≡ Reply.values (quotient ∷ remainder ∷ divisor ∷ [])) ↔
      let interval = interval_in run.stored run.fenced run.opened run.closed in
      IsMean (sum_of interval bytes) (closed_count interval bytes) quotient remainder divisor
  -- after every list of events: the answer is that of the accepted ones
  pub answered : (asked : ℕ) (given : List Record) →
      exposure_reply (exposure_of (run_from asked given)) ≡ exposure_reply (exposure_in (window_of asked) (interval_of (taken_from asked given)))
  -- so three numbers are answered exactly where they are the mean over the window's bytes, by the intervals of the accepted events
  pub mean : (asked : ℕ) (given : List Record) (quotient remainder divisor : ℕ) →
      let h = taken_from asked given in let bytes = window_bytes (window_of asked) in
      (exposure_reply (exposure_of (run_from asked given)) ≡ Reply.values (quotient ∷ remainder ∷ divisor ∷ [])) ↔
      IsMean (sum_of (interval_of h) bytes) (closed_count (interval_of h) bytes) quotient remainder divisor
  -- these sums are those of the answers that the window's bytes get when they are asked
  pub asked : (asked : ℕ) (given : List Record) →
      let h = taken_from asked given in let bytes = window_bytes (window_of asked) in
      (sum_of (interval_of h) bytes ≡ total (λ b. asked_epochs (answer_of asked given b)) bytes) ×
      (closed_count (interval_of h) bytes ≡ total (λ b. asked_closed (answer_of asked given b)) bytes)
  -- a closing epoch is later than its opening epoch, so each byte counted adds one at least, and so is the mean
  pub later : (h : History) (b opening closing : ℕ) → interval_of h b ≡ Closed opening closing → opening < closing
  pub least : (asked : ℕ) (given : List Record) (quotient remainder divisor : ℕ) →
      exposure_reply (exposure_of (run_from asked given)) ≡ Reply.values (quotient ∷ remainder ∷ divisor ∷ []) → 1 ≤ quotient
  -- no sum wraps: it is at most 4,096 × 65,535, which fits 32 bits
  pub fits : (asked : ℕ) (given : List Record) → sum_of (interval_of (taken_from asked given)) (window_bytes (window_of asked)) ≤ 4096 * 65535
  -- an accepted trace: what the run after its events, given singly, answers
  pub traces : (trace area totals : List ℕ) → verdict_reply (verdict_of trace area) ≡ Reply.values totals →
      trace_exposure_reply (trace_exposure_of trace) ≡ exposure_reply (exposure_of (run_from (lines_in trace) (events_in trace)))
  -- a trace that the judge refuses: the same refusal, 14 aside
  pub refused : (trace area : List ℕ) (number at : ℕ) → verdict_reply (verdict_of trace area) ≡ Reply.refused number at → number ≢ 14 →
      trace_exposure_reply (trace_exposure_of trace) ≡ Reply.refused number at
