-- The answer from where the records of a trace lead is that of the trace.
use Rattle.std.specs.Prelude.{Ok, Err}
use mathlib.Core.Path.{◌≡◌, refl, sym, ap, ap₂, ◌∙◌, fun_ext}
use mathlib.Core.List.{List, []}
use Prim.Native.Nat.{ℕ}
use Rattle.event.specs.Answers.{Check, refused_at}
use Rattle.event.specs.declared.Interval.{Interval}
use Rattle.event.specs.declared.Refusal.{Refusal}
use Rattle.history.specs.Interval.{interval_of}
use Rattle.history.specs.View.{View}
use Rattle.history.proofs.Given.{none_broken}
use Rattle.engine.proofs.ByEntries.{same_interval}
use Rattle.engine.proofs.Link.{same_view, tracks}
use Rattle.exposure.specs.Exposure.{exposure_in, exposure_of}
use Rattle.trailer.specs.declared.Trailer.{Trailer}
use Rattle.trailer.specs.Trailer.{trailer_of, opened_of}
use Rattle.trailer.proofs.Written.{opened}
use Rattle.trace.specs.Answers.{TraceCheck}
use Rattle.trace.specs.Records.{record_part, lines_in, records_in, events_in}
use Rattle.trace.specs.Checked.{unless_broken, check_all}
use Rattle.verdict.specs.Verdict.{file_check, history_of}
use Rattle.verdict.proofs.Order.{not_opened, window_fits}
use Rattle.pass.specs.Pass.{Result, all_judged}
use Rattle.pass.proofs.Whole.{judged_check, judged_run}
use Rattle.trace_exposure.specs.TraceExposure.{unless_refused, trace_exposure_of, exposure_by}

module _ (s : List ℕ) where
  -- the trailer is refused
  pub refused_trailer : {x : Refusal} → opened_of s ≡ Err x → refused_at x 0 ≡ trace_exposure_of s
  unfolding trace_exposure_of
  refused_trailer k =
      sym (ap (λ (c : Check). unless_refused (unless_broken c 0 (check_all (lines_in s) (records_in s))) (exposure_in (lines_in s) (interval_of (history_of s)))) (not_opened s [] k))

  -- else the records decide, in the part of the trace where they are
  module _ {t : Trailer} (known : opened_of s ≡ Ok t) {part : List ℕ} (is : part ≡ record_part t.offset s) where
    -- where the records of the trace lead
    abbrev in_trace : Result
    in_trace = all_judged (trailer_of s).count (lines_in s) (record_part (trailer_of s).offset s) []

    same_end : all_judged t.count t.lines part [] ≡ in_trace
    same_end =
        ap (λ (part : List ℕ). all_judged t.count t.lines part []) is ∙
        ap (λ (t : Trailer). all_judged t.count t.lines (record_part t.offset s) []) (sym (opened s known).trailer)

    -- what refuses them is what refuses the trace
    records_decide : file_check s ≡ check_all (lines_in s) (records_in s)
    records_decide = ap (λ (c : Check). unless_broken c 0 (check_all (lines_in s) (records_in s))) (none_broken (opened s known).limits)

    -- where nothing does, the run after them has the intervals of the trace's accepted events
    same_exposure : check_all (lines_in s) (records_in s) ≡ (Ok tt) → exposure_of in_trace.stage.run ≡ exposure_in (lines_in s) (interval_of (history_of s))
    same_exposure k =
        let few = window_fits s [] known in
        let t = tracks (lines_in s) few (events_in s) in
        ap exposure_of (judged_run (lines_in s) few (records_in s) [] k) ∙
        ap₂ (λ (v : View) (interval : ℕ → Interval). exposure_in v.lines interval) (same_view few t) (fun_ext (same_interval t))

    decided : (c : TraceCheck) → check_all (lines_in s) (records_in s) ≡ c →
        unless_refused c (exposure_of in_trace.stage.run) ≡ unless_refused c (exposure_in (lines_in s) (interval_of (history_of s)))
    decided (Err r) k = refl
    decided (Ok _) k = ap (unless_refused (Ok tt)) (same_exposure k)

    pub trace_exposure : exposure_by (all_judged t.count t.lines part []) ≡ trace_exposure_of s
    unfolding trace_exposure_of
    trace_exposure =
        rw (same_end, judged_check (lines_in s) (window_fits s [] known) (records_in s) [], records_decide) (decided (check_all (lines_in s) (records_in s)) refl)
