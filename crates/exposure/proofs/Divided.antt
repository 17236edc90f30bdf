-- The answer is the one that has the sum: quotient × divisor + remainder, with the remainder below the divisor.
use Rattle.std.specs.Prelude.{Err}
use mathlib.Core.Path.{◌≡◌, refl, ◌∙◌}
use mathlib.Core.Logic.{◌≢◌}
use Prim.Native.Nat.{ℕ, zero, suc, ◌*◌, ◌/◌, ◌%◌, ◌≤◌, ◌<◌}
use native.Mathlib.Nat.{mod-lt, div-lt_iff_lt-mul}
use native.Mathlib.Omega.{arith}
use Rattle.event.specs.declared.Interval.{Interval}
use Rattle.event.specs.declared.Refusal.TheVariants.{NoByteClosed}
use Rattle.window.specs.Window.{window_bytes}
use Rattle.exposure.specs.declared.Sums.{Sums}
use Rattle.exposure.specs.Answers.{Exposed, mean}
use Rattle.exposure.specs.Exposure.{sums_of, mean_of, exposure_in, most_epochs}

-- 17 where there is no byte
pub mean_none : (sum divisor : ℕ) → divisor ≡ 0 → mean_of sum divisor ≡ Err NoByteClosed
mean_none sum divisor z = rw z

-- else a quotient and a remainder
pub mean_some : (sum divisor : ℕ) → divisor ≢ 0 → mean_of sum divisor ≡ mean (sum / divisor) (sum % divisor) divisor
mean_some sum zero k = absurd (k refl)
mean_some sum (suc n) k = refl

-- of which the quotient has 16 bits
pub quotient_fits : (sum divisor : ℕ) → divisor ≢ 0 → sum ≤ most_epochs * divisor → sum / divisor < 65536
quotient_fits sum divisor k few =
    let some : 0 < divisor = omega (arith, k) in
    (div-lt_iff_lt-mul {k = divisor} {x = sum} {y = 65536} some).1 (omega arith)

-- and the remainder is below the divisor
pub remainder_below : (sum divisor : ℕ) → divisor ≢ 0 → sum % divisor < divisor
remainder_below sum divisor k = mod-lt sum {m = divisor} (omega (arith, k))

-- so the sums over the bytes of so many lines give the answer
pub of_sums : {r : Exposed} {s : Sums} (interval : ℕ → Interval) {lines window : ℕ} → r ≡ mean_of s.epochs s.bytes →
    s ≡ sums_of interval (64 * lines) → lines ≡ window → r ≡ exposure_in window interval
of_sums interval {lines} {window} m sums l =
    let bytes : 64 * lines ≡ window_bytes window = omega arith in
    m ∙ (rw (sums, bytes))
