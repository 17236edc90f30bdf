-- Mean exposure in plain words.
-- Assumes nothing.
use Rattle.std.specs.Prelude.{Err}
use mathlib.Core.Path.{◌≡◌, refl, sym, ap}
use mathlib.Core.Bool.{cond}
use mathlib.Core.Logic.{◌≢◌, ◌↔◌}
use mathlib.Core.List.{List, [], ◌∷◌}
use Prim.Native.Nat.{ℕ, zero, suc, ◌/◌, ◌%◌, ◌<◌}
use native.Mathlib.Nat.{div-add-mod'}
use native.Mathlib.Omega.{arith}
use lib.Arith.{digits_div, digits_mod}
use lib.Dec.{ltb}
use Rattle.event.specs.declared.Interval.{Interval}
use Rattle.event.specs.declared.Interval.TheVariants.{None, Open, Closed}
use Rattle.event.specs.declared.Refusal.TheVariants.{NoByteClosed}
use Rattle.event.specs.Reply.{Reply}
use Rattle.window.specs.Window.{window_bytes}
use Rattle.exposure.specs.Exposure.{one_if_closed, total, closed_count, mean_of, exposure_in, exposure_reply, IsMean}
use Rattle.exposure.proofs.Total.{total_none, none_total}
use Rattle.exposure.proofs.Divided.{mean_none, mean_some, remainder_below}

-- worked: eight bytes at risk for one epoch, four for three, four open, and the others never stored to
abbrev worked : ℕ → Interval
worked b = cond (ltb b 8) (Closed 0 1) (cond (ltb b 12) (Closed 1 4) (cond (ltb b 16) (Open 2) None))

pub worked_mean : exposure_reply (exposure_in 1 worked) ≡ Reply.values (1 ∷ 8 ∷ 12 ∷ [])
unfolding total
worked_mean = refl

-- the answer is this quotient, remainder and divisor exactly where they are the mean
pub mean_exactly : (sum bytes quotient remainder divisor : ℕ) →
    (exposure_reply (mean_of sum bytes) ≡ Reply.values (quotient ∷ remainder ∷ divisor ∷ [])) ↔ IsMean sum bytes quotient remainder divisor
mean_exactly sum bytes quotient remainder divisor = (is bytes, answered)
  where
    is : (bytes : ℕ) → exposure_reply (mean_of sum bytes) ≡ Reply.values (quotient ∷ remainder ∷ divisor ∷ []) → IsMean sum bytes quotient remainder divisor
    is zero e = let z : ◌≡◌ {A = ℕ} 0 1 = cc in absurd (omega arith)
    is (suc n) e =
        let q : sum / suc n ≡ quotient = cc in
        let r : sum % suc n ≡ remainder = cc in
        let d : suc n ≡ divisor = cc in
        let below : sum % suc n < suc n = remainder_below sum (suc n) (λ z. omega arith) in
        record { is_sum = rw (← q, ← r, ← d) (div-add-mod' sum (suc n)); below = omega arith; counted = sym d }

    answered : IsMean sum bytes quotient remainder divisor → exposure_reply (mean_of sum bytes) ≡ Reply.values (quotient ∷ remainder ∷ divisor ∷ [])
    answered m =
        let q : sum / divisor ≡ quotient = rw (← m.is_sum) (digits_div quotient m.below) in
        let r : sum % divisor ≡ remainder = rw (← m.is_sum) (digits_mod quotient m.below) in
        rw (← m.counted, mean_some sum divisor (λ z. omega (arith, m.below)), q, r)

-- 17 where no byte of the window is closed, and only there
module _ (lines : ℕ) (interval : ℕ → Interval) where
  pub none_closed : ((b opening closing : ℕ) → b < window_bytes lines → interval b ≢ Closed opening closing) → exposure_in lines interval ≡ Err NoByteClosed
  none_closed none = mean_none _ _ (total_none (window_bytes lines) (λ b k. go (interval b) (λ opening closing. none b opening closing k)))
    where
      go : (i : Interval) → ((opening closing : ℕ) → i ≢ Closed opening closing) → one_if_closed i ≡ 0
      go None k = refl
      go (Open opening) k = refl
      go (Closed opening closing) k = absurd (k opening closing refl)

  pub some_closed : (b opening closing : ℕ) → b < window_bytes lines → interval b ≡ Closed opening closing →
      (answer : List ℕ) × (exposure_reply (exposure_in lines interval) ≡ Reply.values answer)
  some_closed b opening closing k e =
      let counted : closed_count interval (window_bytes lines) ≢ 0 =
      λ z. omega (arith, ap one_if_closed e, none_total (λ b. one_if_closed (interval b)) (window_bytes lines) b z k) in
      (_, ap exposure_reply (mean_some _ _ counted))
