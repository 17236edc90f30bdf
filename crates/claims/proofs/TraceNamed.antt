-- The persist interval of a byte after a trace: refused as the judge refuses the trace, 14 aside, and then what the run after its events answers.
use Rattle.std.specs.Prelude.{Ok, Err}
use mathlib.Core.Path.{◌≡◌, ap, ap₂, sym, ◌∙◌, subst}
use mathlib.Core.Bool.{cond}
use mathlib.Core.List.{List, []}
use Prim.Native.Nat.{ℕ}
use Rattle.event.specs.declared.NamedInterval.{NamedInterval}
use Rattle.event.specs.declared.Record.{Record}
use Rattle.event.specs.declared.Refusal.{Refusal}
use Rattle.event.specs.declared.Refusal.TheVariants.{PastWindow}
use Rattle.event.specs.Numbers.{number_of}
use Rattle.event.specs.Reply.{Reply}
use Rattle.ranges.specs.Ranges.{is_past}
use Rattle.history.specs.View.{View}
use Rattle.history.specs.Refused.{first_broken}
use Rattle.history.specs.Given.{window_of, accepted}
use Rattle.engine.specs.Call.{ask_of}
use Rattle.engine.proofs.ByEntries.{same_named}
use Rattle.trailer.specs.Trailer.{file_limits}
use Rattle.trace.specs.Answers.{TraceCheck}
use Rattle.trace.specs.Records.{lines_in, records_in, events_in}
use Rattle.trace.specs.Checked.{check_all}
use Rattle.verdict.specs.Verdict.{file_check, history_of, verdict_of, verdict_reply}
use Rattle.verdict.proofs.Order.{unless_passed}
use Rattle.trace_interval.specs.TraceInterval.{site_in, site_of_event, with_sites, unless_refused, asked_after, trace_interval_of, trace_interval_reply}
use Rattle.trace_interval.proofs.EventSites.{same_site}
use Rattle.claims.specs.After.{run_from, taken_from}
use Rattle.claims.proofs.Answers.{tracked, viewed}
use Rattle.claims.proofs.Singly.{asked_lines, all_taken, window_passed}
use Rattle.claims.proofs.TraceExposed.{accepted_check}
use Rattle.event.specs.Answers.{refused_at}

-- a byte asked after events given one after another
asked_after_lem : (asked : ℕ) (given : List Record) (byte : ℕ) → ask_of (run_from asked given) byte ≡ asked_after (window_of asked) (taken_from asked given) byte
asked_after_lem asked given byte =
    ap₂
    (λ (v : View) (i : NamedInterval). cond (is_past v.lines (record { address = byte; length = 1 })) (Err PastWindow) (Ok i))
    (viewed asked given)
    (same_named (tracked asked given) byte)

module _ (trace : List ℕ) (byte : ℕ) where
  -- what refuses the file or its records refuses the answer
  pub stopped : {x : Refusal} {n : ℕ} → file_check trace ≡ refused_at x n → trace_interval_reply (trace_interval_of trace byte) ≡ Reply.refused (number_of x) n
  unfolding trace_interval_of
  stopped e =
      ap
      (λ (c : TraceCheck). trace_interval_reply (unless_refused c (with_sites (records_in trace) (asked_after (lines_in trace) (history_of trace) byte))))
      e

  module _ (area totals : List ℕ) (e : verdict_reply (verdict_of trace area) ≡ Reply.values totals) where
    -- an accepted trace answers by its accepted events, as the run after them does
    pub answers : trace_interval_of trace byte ≡ with_sites (records_in trace) (ask_of (run_from (lines_in trace) (events_in trace)) byte)
    unfolding trace_interval_of
    answers =
        let t = all_taken trace area totals e in
        ap
        (λ (c : TraceCheck). unless_refused c (with_sites (records_in trace) (asked_after (lines_in trace) (history_of trace) byte)))
        (accepted_check trace area totals e) ∙
        ap (with_sites (records_in trace))
        (sym
        (subst (λ (w : ℕ). ask_of (run_from (lines_in trace) (events_in trace)) byte ≡ asked_after w (accepted w [] (events_in trace)) byte)
        (asked_lines (lines_in trace) (window_passed trace area t.limits))
        (asked_after_lem (lines_in trace) (events_in trace) byte)))

-- the site of an event of an accepted trace is that of its record
pub event_site : (trace area totals : List ℕ) (event : ℕ) → verdict_reply (verdict_of trace area) ≡ Reply.values totals →
    site_in (records_in trace) event ≡ site_of_event (history_of trace) event
event_site trace area totals event e =
    same_site (lines_in trace) (records_in trace)
    (unless_passed (first_broken (file_limits trace)) 0 (check_all (lines_in trace) (records_in trace)) (accepted_check trace area totals e)).1 event
