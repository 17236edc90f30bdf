-- Answers, and the findings of an area one after another, counted.
use Rattle.std.proofs.Common.{◌≡◌, ℕ, suc, ◌+◌, ◌-◌, ◌*◌, ◌<◌, ◌≤◌, List, get_or, refl, arith}
use Rattle.event.specs.declared.Refusal.{Refusal}
use Rattle.event.specs.Numbers.{number_of}
use Rattle.verdict.specs.Answers.{Verdict}
use Rattle.verdict.specs.Verdict.{verdict_of, verdict_reply, area_after}
use Rattle.codec.specs.Codec.{finding_size}
use Rattle.corpus.specs.Tally.{counted, place_of, kinds_from, kinds_in}
use Rattle.event.specs.Answers.{refused_at, totals}

-- the kinds from one finding on: its kind, and then those after it
module _ (area : List ℕ) (i events : ℕ) (counts : List ℕ) where
  pub kinds_next : i < events → kinds_from i (events - i) area counts ≡
      kinds_from (i + 1) (events - (i + 1)) area (counted (get_or area (finding_size * i) 0) counts)
  unfolding kinds_from
  kinds_next k =
      let left : events - i ≡ suc (events - (i + 1)) = omega arith in
      let next : i + 1 ≡ suc i = omega arith in
      rw (left, next)

  pub kinds_done : events ≤ i → kinds_from i (events - i) area counts ≡ counts
  unfolding kinds_from
  kinds_done k = let none : events - i ≡ 0 = omega arith in rw none

-- an answer and its findings, as the code counts them by the answer's case
module _ (answer : Verdict) (area answers kinds : List ℕ) where
  pub refused_counted : {x : Refusal} {n place : ℕ} {later : List ℕ} → answer ≡ refused_at x n → place ≡ number_of x →
      later ≡ counted place answers →
      (later ≡ counted (place_of (verdict_reply answer)) answers) × (kinds ≡ kinds_in answer area kinds)
  refused_counted e p k = rw (e, ← p) (k, refl)

  pub accepted_counted : {events fences findings : ℕ} {later more : List ℕ} → answer ≡ totals events fences findings →
      later ≡ counted 0 answers → more ≡ kinds_from 0 events area kinds →
      (later ≡ counted (place_of (verdict_reply answer)) answers) × (more ≡ kinds_in answer area kinds)
  accepted_counted e k m = rw e (k, m)

-- a trace that is judged into an area as it was before, and counted
pub run_counted : (trace before answers kinds : List ℕ) {answer : Verdict} {area left later more : List ℕ} → area ≡ before →
    answer ≡ verdict_of trace area → left ≡ area_after trace area →
    later ≡ counted (place_of (verdict_reply answer)) answers → more ≡ kinds_in answer left kinds →
    (left ≡ area_after trace before) × ((later ≡ counted (place_of (verdict_reply (verdict_of trace before))) answers) ×
    (more ≡ kinds_in (verdict_of trace before) (area_after trace before) kinds))
run_counted trace before answers kinds b v l a k = rw (← b, ← v, ← l) (refl, (a, k))
