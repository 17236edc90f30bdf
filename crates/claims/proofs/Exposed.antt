-- The mean exposure of a run: what the accepted events say.
use mathlib.Core.Path.{◌≡◌, refl, sym, ap, ap₂, ◌∙◌, fun_ext}
use mathlib.Core.Logic.{◌↔◌}
use mathlib.Core.List.{List, [], ◌∷◌}
use Prim.Native.Nat.{ℕ, zero, suc, ◌*◌, ◌≤◌, ◌<◌}
use native.Mathlib.Omega.{arith}
use native.Mathlib.Decide.{ℕ_discrete as dec_eq}
use lib.ListN.{length}
use Rattle.event.specs.declared.Interval.{Interval}
use Rattle.event.specs.declared.Interval.TheVariants.{None, Open, Closed}
use Rattle.event.specs.declared.Record.{Record}
use Rattle.event.specs.declared.NamedInterval.{NamedInterval}
use Rattle.event.specs.declared.NamedInterval.TheVariants.{None as NoneNamed, Open as OpenNamed, Closed as ClosedNamed}
use Rattle.event.specs.Reply.{Reply, named_values, without_events}
use Rattle.window.specs.Window.{window_bytes, line_of}
use Rattle.history.specs.History.{History, is, fences}
use Rattle.history.specs.Interval.{epoch_at, last_store, fence_after, interval_of, named_of}
use Rattle.history.specs.View.{View}
use Rattle.history.specs.Given.{window_of}
use Rattle.history.proofs.Count.{count_few, count_less}
use Rattle.history.proofs.Interval.{closing_fence_lem, interval_none, interval_open, interval_closed, named_interval}
use Rattle.history.proofs.Meaning.Accepted.{Taken, accepted_taken, taken_events}
use Rattle.engine.specs.Answers.{Asked}
use Rattle.engine.specs.Reply.{asked_reply}
use Rattle.engine.proofs.ByEntries.{same_interval}
use Rattle.engine.proofs.ClosingFence.{closing_within, closing_forced}
use Rattle.exposure.specs.Exposure.{epochs_at_risk, one_if_closed, total, sum_of, closed_count, exposure_in, exposure_of, exposure_reply, most_epochs, IsMean}
use Rattle.exposure.proofs.Total.{total_same, closed_few, sum_below, sum_above}
use Rattle.exposure.proofs.Meaning.{mean_exactly}
use Rattle.claims.specs.After.{run_from, taken_from}
use Rattle.claims.specs.WhereClosed.{epochs_answered}
use Rattle.claims.specs.MeanExposure.{answer_of, asked_epochs, asked_closed}
use Rattle.claims.proofs.Answers.{tracked, viewed, byte_known, window_fits}

-- there are at most as many fences as events
epoch_few : (h : History) (m : ℕ) → epoch_at h m ≤ m
unfolding epoch_at
epoch_few h m = count_few (is fences h) m

-- a closed interval closed at a fence after its store, which is an event of the list
record Lasted (h : History) (opening closing : ℕ) : Type 0 where
  later : opening < closing
  few : closing ≤ length h

lasted : (h : History) (b : ℕ) {opening closing : ℕ} → interval_of h b ≡ Closed opening closing → Lasted h opening closing
unfolding epoch_at
lasted h b {opening} {closing} e = go (dec_eq (last_store h b) 0) (dec_eq fence 0)
  where
    fence : ℕ
    fence = fence_after h (line_of b) (last_store h b)

    go : Dec (last_store h b ≡ 0) → Dec (fence ≡ 0) → Lasted h opening closing
    go (yes z) d = let i = interval_none h b z in let z : ◌≡◌ {A = ℕ} 0 1 = cc in absurd (omega arith)
    go (no s) (yes z) = let i = interval_open h b s z in let z : ◌≡◌ {A = ℕ} 0 1 = cc in absurd (omega arith)
    go (no s) (no f) =
        let i = interval_closed h b s f in
        let o : epoch_at h (last_store h b) ≡ opening = cc in
        let c : epoch_at h fence ≡ closing = cc in
        let x = closing_forced h (line_of b) (last_store h b) f in
        let after : last_store h b < fence = omega (arith, x.after, x.later, x.by) in
        let less = count_less (is fences h) (last_store h b) fence after (closing_fence_lem h (line_of b) (last_store h b) f) in
        record { later = omega (arith, less, o, c); few = omega (arith, c, epoch_few h fence, closing_within h (line_of b) (last_store h b) f) }

pub closes_later : (h : History) (b opening closing : ℕ) → interval_of h b ≡ Closed opening closing → opening < closing
closes_later h b opening closing e = (lasted h b e).later

-- so a byte that is counted adds at least one epoch, and at most as many as there are events
one_at_least : (h : History) (b : ℕ) → one_if_closed (interval_of h b) ≤ epochs_at_risk (interval_of h b)
one_at_least h b = go (interval_of h b) refl
  where
    go : (i : Interval) → interval_of h b ≡ i → one_if_closed i ≤ epochs_at_risk i
    go None e = omega arith
    go (Open opening) e = omega arith
    go (Closed opening closing) e = omega (arith, (lasted h b e).later)

risk_few : (h : History) (b : ℕ) → length h ≤ most_epochs → epochs_at_risk (interval_of h b) ≤ most_epochs
risk_few h b few = go (interval_of h b) refl
  where
    go : (i : Interval) → interval_of h b ≡ i → epochs_at_risk i ≤ most_epochs
    go None e = omega arith
    go (Open opening) e = omega arith
    go (Closed opening closing) e = omega (arith, (lasted h b e).few)

-- what a byte's answer without its events adds is what its interval does
asked_epochs_lem : (i : NamedInterval) → epochs_at_risk (without_events i) ≡ asked_epochs (epochs_answered (Reply.values (named_values i)))
asked_epochs_lem NoneNamed = refl
asked_epochs_lem (OpenNamed opened store back) = refl
asked_epochs_lem (ClosedNamed opened closed store back fence) = refl

asked_closed_lem : (i : NamedInterval) → one_if_closed (without_events i) ≡ asked_closed (epochs_answered (Reply.values (named_values i)))
asked_closed_lem NoneNamed = refl
asked_closed_lem (OpenNamed opened store back) = refl
asked_closed_lem (ClosedNamed opened closed store back fence) = refl

-- the mean is one at least where the sum is as large as the number of bytes
quotient_some : {sum bytes quotient remainder divisor : ℕ} → IsMean sum bytes quotient remainder divisor → bytes ≤ sum → 1 ≤ quotient
quotient_some {quotient = zero} m k = let s = m.is_sum in omega (arith, m.below, m.counted)
quotient_some {quotient = suc q} m k = omega arith

-- after events given one after another
module _ (asked : ℕ) (given : List Record) where
  abbrev history : History
  history = taken_from asked given

  abbrev bytes : ℕ
  bytes = window_bytes (window_of asked)

  -- the answer is that of the accepted events
  pub same_exposure : exposure_of (run_from asked given) ≡ exposure_in (window_of asked) (interval_of history)
  same_exposure =
      ap₂ (λ (v : View) (interval : ℕ → Interval). exposure_in v.lines interval) (viewed asked given) (fun_ext (same_interval (tracked asked given)))

  pub exposed_mean : (quotient remainder divisor : ℕ) →
      (exposure_reply (exposure_of (run_from asked given)) ≡ Reply.values (quotient ∷ remainder ∷ divisor ∷ [])) ↔
      IsMean (sum_of (interval_of history) bytes) (closed_count (interval_of history) bytes) quotient remainder divisor
  exposed_mean quotient remainder divisor = rw same_exposure (mean_exactly _ _ quotient remainder divisor)

  -- the sums are those of the bytes asked
  pub asked_sums :
      (sum_of (interval_of history) bytes ≡ total (λ b. asked_epochs (answer_of asked given b)) bytes) ×
      (closed_count (interval_of history) bytes ≡ total (λ b. asked_closed (answer_of asked given b)) bytes)
  asked_sums = (
    total_same bytes
        (λ b k.
        ap epochs_at_risk (sym (named_interval history b)) ∙ asked_epochs_lem (named_of history b) ∙
        sym (ap (λ (a : Asked). asked_epochs (epochs_answered (asked_reply a))) (byte_known asked given b k))),
    total_same bytes
        (λ b k.
        ap one_if_closed (sym (named_interval history b)) ∙ asked_closed_lem (named_of history b) ∙
        sym (ap (λ (a : Asked). asked_closed (epochs_answered (asked_reply a))) (byte_known asked given b k))),
  )

  pub mean_least : (quotient remainder divisor : ℕ) →
      exposure_reply (exposure_of (run_from asked given)) ≡ Reply.values (quotient ∷ remainder ∷ divisor ∷ []) → 1 ≤ quotient
  mean_least quotient remainder divisor e =
      quotient_some ((exposed_mean quotient remainder divisor).0 e) (sum_above (interval_of history) bytes (λ b k. one_at_least history b))

  pub sum_fits : sum_of (interval_of history) bytes ≤ 4096 * 65535
  sum_fits =
      let events = taken_events (accepted_taken (window_of asked) [] given Taken.start) in
      omega (arith, sum_below (interval_of history) bytes (λ b k. risk_few history b events), closed_few (interval_of history) bytes, window_fits asked)
