-- Records followed are checked as records given, and lead to the run to which these lead, but for the undo log and the count of findings.
use Rattle.std.specs.Prelude.{Ok, Err}
use mathlib.Core.Path.{◌≡◌, refl}
use mathlib.Core.List.{List, [], ◌∷◌}
use Prim.Native.Nat.{ℕ, suc, ◌+◌}
use Rattle.event.specs.declared.Event.{Event}
use Rattle.event.specs.Answers.{Check, Parsed}
use Rattle.codec.specs.Codec.{finding_size}
use Rattle.history.specs.Refused.{refusal_by}
use Rattle.tables.specs.Run.{Run}
use Rattle.tables.specs.View.{of_run}
use Rattle.tables.specs.Table.{changed}
use Rattle.events.specs.Give.{given_for, give_of}
use Rattle.events.proofs.WithoutFindings.{without_findings, follow_without}
use Rattle.record_step.specs.Step.{stage, record_given}
use Rattle.pass.specs.Pass.{Passed, after_answer, records_judged}
use Rattle.pass.specs.Follow.{Ended, ended, after_check, records_followed}

-- from a run that has this undo log and keeps this of the first write-backs
module _ (log : List ℕ) (keep : List ℕ → List ℕ)
    (kept : (f : ℕ → ℕ → ℕ) (at n : ℕ) (xs : List ℕ) → keep (changed f at n xs) ≡ changed f at n (keep xs)) where
  -- where records given lead, with no finding counted
  abbrev pub ended_without : Passed → Ended
  ended_without e = ended e.check (without_findings log keep e.stage.run)

  -- one event, where the others lead alike
  same_after : (c : Check) (run : Run) (e : Event) (n : ℕ) (buffer : List ℕ) (followed : Ended) (given : Passed) → followed ≡ ended_without given →
      after_check c n (without_findings log keep (given_for c run e).run) followed ≡
      ended_without (after_answer (given_for c run e).answer n (stage (given_for c run e).run buffer) given)
  same_after (Err x) run e n buffer followed given k = refl
  same_after (Ok _) run e n buffer followed given k = k

  -- all of them, by induction
  pub followed_without : (records : List Parsed) (n at : ℕ) (run : Run) (buffer : List ℕ) →
      records_followed records n (without_findings log keep run) ≡ ended_without (records_judged records n at (stage run buffer))
  unfolding records_followed records_judged give_of
  followed_without [] n at run buffer = refl
  followed_without (Err x ∷ rest) n at run buffer = refl
  followed_without (Ok r ∷ rest) n at run buffer =
      let next = record_given (Ok r) at (stage run buffer) in
      rw (follow_without log keep kept run r)
      (same_after (refusal_by (of_run run) r.event) run r.event n next.buffer _ _
      (followed_without rest (suc n) (at + finding_size) next.run next.buffer))
