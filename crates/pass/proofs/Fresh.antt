-- Records given to a fresh run lead to where all records of a trace lead from a fresh window; and so they do, to a run without them, where
-- the fresh run lacks the tables that only a byte's answer goes by.
use Rattle.std.specs.Prelude.{replicate}
use mathlib.Core.Path.{◌≡◌, refl, sym, ap, ◌∙◌}
use mathlib.Core.List.{List, []}
use Prim.Native.Nat.{ℕ}
use Rattle.tables.specs.Run.{Run}
use Rattle.tables.specs.View.{fresh_run_of, fresh_run}
use Rattle.tables.proofs.Table.{changed_empty}
use Rattle.events.proofs.WithoutFindings.{without_findings}
use Rattle.engine.specs.Call.{empty_run}
use Rattle.record_step.specs.Step.{stage}
use Rattle.trace.specs.Records.{records_of}
use Rattle.pass.specs.Pass.{Passed, records_given, all_judged}
use Rattle.pass.specs.Follow.{Ended, ended, records_followed}
use Rattle.pass.proofs.Bare.{bare_passed, bare_judged}
use Rattle.pass.proofs.WithoutFindings.{followed_without}

-- where records followed from a fresh run lead: the undo log is empty, no finding is counted, and all first write-backs stand, or none
abbrev pub followed_whole : Passed → Ended
followed_whole e = ended e.check (without_findings (replicate 4096 0) (λ xs. xs) e.stage.run)

abbrev pub followed_bare : Passed → Ended
followed_bare e = ended e.check (without_findings (replicate 4096 0) (λ xs. []) e.stage.run)

module _ (count lines : ℕ) (records buffer : List ℕ) {run : Run} where
  pub same_end : run ≡ fresh_run 4096 lines → records_given count records (stage run buffer) ≡ all_judged count lines records buffer
  unfolding empty_run
  same_end fresh = ap (λ (run : Run). records_given count records (stage run buffer)) fresh

  pub same_bare : run ≡ fresh_run 0 lines → records_given count records (stage run buffer) ≡ bare_passed (all_judged count lines records buffer)
  unfolding empty_run
  same_bare fresh =
      ap (λ (run : Run). records_given count records (stage run buffer)) fresh ∙
      bare_judged (records_of count records) 1 0 (stage (empty_run lines) buffer)

  -- records followed from a fresh run lead there too, but for the undo log and the count of findings
  pub same_followed : run ≡ fresh_run 4096 lines → records_followed (records_of count records) 1 run ≡ followed_whole (all_judged count lines records buffer)
  unfolding empty_run
  same_followed fresh =
      ap (λ (run : Run). records_followed (records_of count records) 1 run) fresh ∙
      followed_without (replicate 4096 0) (λ xs. xs) (λ f at n xs. refl) (records_of count records) 1 0 (empty_run lines) buffer

  -- and so they do, to a run without the first write-backs, where the fresh run lacks these
  pub same_followed_bare : run ≡ fresh_run_of 4096 4096 0 lines →
      records_followed (records_of count records) 1 run ≡ followed_bare (all_judged count lines records buffer)
  unfolding empty_run
  same_followed_bare fresh =
      ap (λ (run : Run). records_followed (records_of count records) 1 run) fresh ∙
      followed_without (replicate 4096 0) (λ xs. []) (λ f at n xs. sym (changed_empty f at n)) (records_of count records) 1 0 (empty_run lines) buffer
