-- What the judge answers to a trace and what it leaves in the area, for either outcome of the check.
use Rattle.std.specs.Prelude.{Ok}
use mathlib.Core.Path.{◌≡◌, sym}
use mathlib.Core.List.{List, ◌++◌}
use Prim.Native.Nat.{ℕ}
use lib.ListN.{length, drop}
use Rattle.event.specs.declared.Refusal.{Refusal}
use Rattle.history.specs.Interval.{epoch_at}
use Rattle.history.specs.Given.{reported}
use Rattle.trailer.specs.Trailer.{trailer_of}
use Rattle.trace.specs.Records.{record_part, records_in, events_in}
use Rattle.trace.proofs.RecordsNext.{records_counted}
use Rattle.verdict.specs.Verdict.{area_size, trace_check, history_of, answers_of, verdict_of, findings_bytes, area_after}
use Rattle.event.specs.Answers.{refused_at, totals}

module _ (s area : List ℕ) where
  -- where the check refuses the trace, so does the judge, and the area stays as it was
  pub refuses : {x : Refusal} {n : ℕ} → trace_check s area ≡ refused_at x n → verdict_of s area ≡ refused_at x n
  unfolding verdict_of
  refuses e = rw e

  pub area_stays : {x : Refusal} {n : ℕ} → trace_check s area ≡ refused_at x n → area_after s area ≡ area
  unfolding area_after
  area_stays e = rw e

  pub rejected : {x : Refusal} {n : ℕ} → trace_check s area ≡ refused_at x n → (refused_at x n ≡ verdict_of s area) × (area ≡ area_after s area)
  rejected e = (sym (refuses e), sym (area_stays e))

  -- where it passes, the judge answers with the totals of the trace's events, and the area holds their findings and then what it held
  pub totalled : trace_check s area ≡ (Ok tt) →
      let h = history_of s in verdict_of s area ≡ totals (length h) (epoch_at h (length h)) (reported (answers_of s))
  unfolding verdict_of
  totalled e = rw e

  pub area_holds : trace_check s area ≡ (Ok tt) → area_after s area ≡ findings_bytes (events_in s) (answers_of s) ++ drop (area_size s) area
  unfolding area_after
  area_holds e = rw e

-- a trace has as many records as its trailer counts
pub all_counted : (s : List ℕ) → length (records_in s) ≡ (trailer_of s).count
all_counted s = records_counted (trailer_of s).count (record_part (trailer_of s).offset s)
