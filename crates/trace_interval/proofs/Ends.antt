-- The answer from where the records lead, for either outcome of their check.
use Rattle.std.specs.Prelude.{Ok, Err}
use mathlib.Core.Path.{◌≡◌, ap, ◌∙◌}
use mathlib.Core.List.{List}
use Prim.Native.Nat.{ℕ}
use Rattle.event.specs.Answers.{Parsed}
use Rattle.event.specs.declared.TraceRefusal.{TraceRefusal}
use Rattle.engine.specs.Answers.{Asked}
use Rattle.engine.specs.Call.{ask_of}
use Rattle.tables.specs.Run.{Run}
use Rattle.pass.specs.Pass.{Passed}
use Rattle.pass.specs.Follow.{Ended}
use Rattle.pass.proofs.Fresh.{followed_whole}
use Rattle.trace_interval.specs.TraceInterval.{with_sites, interval_by}

module _ (records : List Parsed) (byte : ℕ) (e : Passed) {given : Ended} (same : given ≡ followed_whole e) where
  -- a refusal
  pub ends_refused : {r : TraceRefusal} → Err r ≡ given.check → Err r ≡ interval_by records e byte
  ends_refused k = rw (← (k ∙ ap (λ (end : Ended). end.check) same))

  -- none: what the run answers, which no log and no finding goes into
  pub ends_passed : Ok tt ≡ given.check → {end : Run} → end ≡ given.run → {asked : Asked} → asked ≡ ask_of end byte →
      with_sites records asked ≡ interval_by records e byte
  ends_passed k held asked =
      rw (← (k ∙ ap (λ (end : Ended). end.check) same))
      (ap (with_sites records) (asked ∙ ap (λ (run : Run). ask_of run byte) (held ∙ ap (λ (end : Ended). end.run) same)))
