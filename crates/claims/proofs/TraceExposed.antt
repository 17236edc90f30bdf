-- The mean exposure of a trace: refused as the judge refuses the trace, 14 aside, and then what its accepted events say.
use Rattle.std.specs.Prelude.{Ok, Err}
use mathlib.Core.Path.{◌≡◌, refl, sym, ap, ◌∙◌, subst}
use mathlib.Core.Logic.{◌≢◌, ◌⊎◌, inl, inr}
use mathlib.Core.List.{List, []}
use Prim.Native.Nat.{ℕ, ◌<◌}
use borrow.Author.Tests.{eq-eqb, ne_eqb}
use Rattle.event.specs.Answers.{Check, refused_at}
use Rattle.event.specs.declared.Interval.TheVariants.{Closed}
use Rattle.event.specs.declared.Refusal.{Refusal}
use Rattle.event.specs.declared.Refusal.TheVariants.{AreaTooShort, TransactionOpen}
use Rattle.event.specs.Numbers.{number_of}
use Rattle.event.specs.Reply.{Reply}
use Rattle.window.specs.Window.{window_bytes}
use Rattle.history.specs.History.{History}
use Rattle.history.specs.Interval.{interval_of}
use Rattle.history.specs.Transaction.{depth}
use Rattle.history.specs.Refused.{First, NoneBroken}
use Rattle.history.specs.Given.{accepted}
use Rattle.history.proofs.Given.{first_broken_lem, none_broken}
use Rattle.exposure.specs.Answers.{Exposed}
use Rattle.exposure.specs.Exposure.{exposure_in, exposure_of, exposure_reply}
use Rattle.exposure.proofs.Meaning.{mean_exactly, none_closed, some_closed}
use Rattle.trace.specs.Answers.{TraceCheck}
use Rattle.trailer.specs.Trailer.{file_limits}
use Rattle.trace.specs.Records.{lines_in, records_in, events_in}
use Rattle.trace.specs.Checked.{unless_broken, check_all}
use Rattle.verdict.specs.Verdict.{trace_check, file_check, history_of, verdict_of, verdict_reply}
use Rattle.verdict.proofs.Order.{area_aside}
use Rattle.verdict.proofs.Outcome.{refuses, totalled}
use Rattle.trace_exposure.specs.TraceExposure.{without_record, unless_refused, trace_exposure_of, trace_exposure_reply}
use Rattle.claims.specs.After.{run_from}
use Rattle.claims.specs.Traces.{StopsAt, TakesAll}
use Rattle.claims.specs.MeanExposure.{NoneClosed, MeanExposure}
use Rattle.claims.proofs.Answers.{not_refused}
use Rattle.claims.proofs.Records.{takes_accepts}
use Rattle.claims.proofs.Area.{accepts_accepted}
use Rattle.claims.proofs.Traces.{stops_checked, takes_checked}
use Rattle.claims.proofs.Singly.{asked_lines, all_taken, window_passed}
use Rattle.claims.proofs.Exposed.{same_exposure, exposed_mean, asked_sums, closes_later, mean_least, sum_fits}

-- the answer without a record's number is the run's
same_reply : (e : Exposed) → trace_exposure_reply (without_record e) ≡ exposure_reply e
same_reply (Err x) = refl
same_reply (Ok m) = refl

module _ (trace : List ℕ) where
  -- the mean exposure by the trace's accepted events
  abbrev exposed : Exposed
  exposed = exposure_in (lines_in trace) (interval_of (history_of trace))

  -- what refuses the file or its records refuses the answer
  refused : {x : Refusal} {n : ℕ} → file_check trace ≡ refused_at x n → trace_exposure_reply (trace_exposure_of trace) ≡ Reply.refused (number_of x) n
  unfolding trace_exposure_of
  refused e = ap (λ (c : TraceCheck). trace_exposure_reply (unless_refused c exposed)) e

  -- where nothing does, the accepted events decide
  passed : file_check trace ≡ (Ok tt) → trace_exposure_reply (trace_exposure_of trace) ≡ exposure_reply exposed
  unfolding trace_exposure_of
  passed e = ap (λ (c : TraceCheck). trace_exposure_reply (unless_refused c exposed)) e ∙ same_reply exposed

  -- the file is refused
  pub not_a_trace : {x : Refusal} → First (file_limits trace) x → trace_exposure_reply (trace_exposure_of trace) ≡ Reply.refused (number_of x) 0
  not_a_trace k = refused (ap (λ (c : Check). unless_broken c 0 (check_all (lines_in trace) (records_in trace))) (first_broken_lem k))

  -- where it is not, the records decide
  module _ (k : NoneBroken (file_limits trace)) where
    records_check : file_check trace ≡ check_all (lines_in trace) (records_in trace)
    records_check = ap (λ (c : Check). unless_broken c 0 (check_all (lines_in trace) (records_in trace))) (none_broken k)

    pub record_stops : {x : Refusal} {n : ℕ} → StopsAt trace x n → trace_exposure_reply (trace_exposure_of trace) ≡ Reply.refused (number_of x) n
    record_stops t = refused (records_check ∙ stops_checked t)

    pub left_open : {h : History} → TakesAll trace h → depth h ≢ 0 → trace_exposure_reply (trace_exposure_of trace) ≡ Reply.refused 13 0
    left_open {h} t d = refused {x = TransactionOpen} {n = 0} (records_check ∙ takes_checked 1 t ∙ (rw (ne_eqb (depth h) 0 d)))

    -- all are taken and no transaction is open
    all_exposed : {h : History} → TakesAll trace h → depth h ≡ 0 → trace_exposure_reply (trace_exposure_of trace) ≡ exposure_reply (exposure_in (lines_in trace) (interval_of h))
    all_exposed {h} t d =
        passed (records_check ∙ takes_checked 1 t ∙ (rw (eq-eqb (depth h) 0 d))) ∙
        ap (λ (h : History). exposure_reply (exposure_in (lines_in trace) (interval_of h))) (accepts_accepted (takes_accepts t))

    pub none_exposed : {h : History} → TakesAll trace h → depth h ≡ 0 → NoneClosed (lines_in trace) h → trace_exposure_reply (trace_exposure_of trace) ≡ Reply.refused 17 0
    none_exposed {h} t d none = all_exposed t d ∙ ap exposure_reply (none_closed (lines_in trace) (interval_of h) none)

    pub some_exposed : {h : History} (b opening closing number at : ℕ) → TakesAll trace h → depth h ≡ 0 → b < window_bytes (lines_in trace) →
        interval_of h b ≡ Closed opening closing → trace_exposure_reply (trace_exposure_of trace) ≢ Reply.refused number at
    some_exposed {h} b opening closing number at t d inside e r =
        not_refused (some_closed (lines_in trace) (interval_of h) b opening closing inside e).1 (sym (all_exposed t d) ∙ r)

  module _ (area : List ℕ) where
    -- an answer that is refused as the file and its records are is refused as the judge refuses, 14 aside
    module _ (answer : Reply) (stopped : (x : Refusal) (n : ℕ) → file_check trace ≡ refused_at x n → answer ≡ Reply.refused (number_of x) n) where
      same_refusal : {number at : ℕ} (c : TraceCheck) → file_check trace ≡ c → trace_check trace area ≡ c →
          verdict_reply (verdict_of trace area) ≡ Reply.refused number at → answer ≡ Reply.refused number at
      same_refusal (Err r) f t e = stopped r.refusal r.at f ∙ sym (ap verdict_reply (refuses trace area t)) ∙ e
      same_refusal (Ok _) f t e = absurd (not_refused (ap verdict_reply (totalled trace area t)) e)

      pub judge_refuses : (number at : ℕ) → verdict_reply (verdict_of trace area) ≡ Reply.refused number at → number ≢ 14 → answer ≡ Reply.refused number at
      judge_refuses number at e other = go (area_aside trace area)
        where
          go : (trace_check trace area ≡ file_check trace) ⊎ (trace_check trace area ≡ refused_at AreaTooShort 0) → answer ≡ Reply.refused number at
          go (inl same) = same_refusal (file_check trace) refl same e
          go (inr short) = let r = ap verdict_reply (refuses trace area short) in let n : number ≡ 14 = cc in absurd (other n)

    -- an accepted trace
    pub accepted_check : (totals : List ℕ) → verdict_reply (verdict_of trace area) ≡ Reply.values totals → file_check trace ≡ Ok tt
    accepted_check totals e = go (area_aside trace area) (file_check trace) refl
      where
        go : (trace_check trace area ≡ file_check trace) ⊎ (trace_check trace area ≡ refused_at AreaTooShort 0) → (c : TraceCheck) → file_check trace ≡ c → file_check trace ≡ Ok tt
        go (inl same) (Ok _) f = f
        go (inl same) (Err r) f = absurd (not_refused e (ap verdict_reply (refuses trace area (same ∙ f))))
        go (inr short) c f = absurd (not_refused e (ap verdict_reply (refuses trace area short)))

    pub judge_accepts : (totals : List ℕ) → verdict_reply (verdict_of trace area) ≡ Reply.values totals →
        trace_exposure_reply (trace_exposure_of trace) ≡ exposure_reply (exposure_of (run_from (lines_in trace) (events_in trace)))
    judge_accepts totals e =
        let t = all_taken trace area totals e in
        passed (accepted_check totals e) ∙
        sym (subst (λ (w : ℕ). exposure_reply (exposure_of (run_from (lines_in trace) (events_in trace))) ≡ exposure_reply (exposure_in w (interval_of (accepted w [] (events_in trace)))))
        (asked_lines (lines_in trace) (window_passed trace area t.limits))
        (ap exposure_reply (same_exposure (lines_in trace) (events_in trace))))

pub mean_exposure : MeanExposure
mean_exposure =
    record {
      any_run = λ run quotient remainder divisor. mean_exactly _ _ quotient remainder divisor;
      answered = λ asked given. ap exposure_reply (same_exposure asked given);
      mean = exposed_mean;
      asked = asked_sums;
      later = closes_later;
      least = mean_least;
      fits = sum_fits;
      traces = judge_accepts;
      refused = λ trace area. judge_refuses trace area (trace_exposure_reply (trace_exposure_of trace)) (λ x n. refused trace);
    }
