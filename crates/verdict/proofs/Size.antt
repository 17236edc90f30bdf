-- The findings of records that are all taken: 12 bytes each.
use Rattle.std.specs.Prelude.{Ok, Err}
use mathlib.Core.Path.{◌≡◌}
use mathlib.Core.List.{List, [], ◌∷◌}
use Prim.Native.Nat.{ℕ, suc, ◌*◌}
use native.Mathlib.Omega.{arith}
use lib.ListN.{length}
use Rattle.event.specs.Answers.{Parsed}
use Rattle.codec.specs.Codec.{finding_size}
use Rattle.history.specs.History.{History}
use Rattle.history.specs.View.{of_history}
use Rattle.history.specs.Refused.{refusal_by}
use Rattle.history.specs.Given.{answer_of, answers}
use Rattle.trace.specs.Records.{events_of}
use Rattle.trace.specs.Checked.{check_from}
use Rattle.verdict.specs.Verdict.{findings_bytes}
use Rattle.verdict.proofs.Order.{unless_passed}

pub findings_size : (lines n : ℕ) (h : History) (records : List Parsed) → check_from lines n h records ≡ (Ok tt) →
    length (findings_bytes (events_of records) (answers lines h (events_of records))) ≡ finding_size * length records
unfolding check_from events_of answers findings_bytes answer_of
findings_size lines n h [] check = omega arith
findings_size lines n h (Err x ∷ rest) check = let z : ◌≡◌ {A = ℕ} 0 1 = cc in absurd (omega arith)
findings_size lines n h (Ok r ∷ rest) check =
    let taken = unless_passed (refusal_by (of_history lines h) r.event) n (check_from lines (suc n) (r ∷ h) rest) check in
    let more = findings_size lines (suc n) (r ∷ h) rest taken.1 in
    rw taken.0 (omega (arith, more))
