-- The answer from where the records lead, for either outcome of their check.
use Rattle.std.specs.Prelude.{Ok, Err}
use mathlib.Core.Path.{◌≡◌, ap, ◌∙◌}
use Rattle.event.specs.declared.TraceRefusal.{TraceRefusal}
use Rattle.exposure.specs.Answers.{Exposed}
use Rattle.exposure.specs.Exposure.{exposure_of}
use Rattle.tables.specs.Run.{Run}
use Rattle.pass.specs.Pass.{Passed}
use Rattle.pass.specs.Follow.{Ended}
use Rattle.pass.proofs.Fresh.{followed_bare}
use Rattle.trace_exposure.specs.TraceExposure.{without_record, exposure_by}

module _ (e : Passed) {given : Ended} (same : given ≡ followed_bare e) where
  -- a refusal
  pub ends_refused : {r : TraceRefusal} → Err r ≡ given.check → Err r ≡ exposure_by e
  ends_refused k = rw (← (k ∙ ap (λ (end : Ended). end.check) same))

  -- none: what the run answers, which no log, no finding and no first write-back goes into
  pub ends_passed : Ok tt ≡ given.check → {end : Run} → end ≡ given.run → {found : Exposed} → found ≡ exposure_of end →
      without_record found ≡ exposure_by e
  ends_passed k held found =
      rw (← (k ∙ ap (λ (end : Ended). end.check) same)) (ap without_record (found ∙ ap exposure_of (held ∙ ap (λ (end : Ended). end.run) same)))
