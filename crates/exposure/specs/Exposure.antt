-- Mean exposure: "sum closing epoch less opening epoch over all bytes whose interval is closed, and divide by the number of such bytes."
use Rattle.std.specs.Prelude.{◌≡◌, Bool, true, false, cond, List, [], ◌∷◌, ℕ, zero, suc, ◌+◌, ◌-◌, ◌*◌, ◌/◌, ◌%◌, ◌<◌, Err}
use Rattle.event.specs.declared.Interval.{Interval}
use Rattle.event.specs.declared.Interval.TheVariants.{None, Open, Closed}
use Rattle.event.specs.declared.Refusal.TheVariants.{NoByteClosed}
use Rattle.event.specs.Reply.{Reply, reply_by, refusal_reply}
use Rattle.window.specs.Window.{window_bytes}
use Rattle.tables.specs.Run.{Run}
use Rattle.tables.specs.View.{interval_in, of_run}
use Rattle.exposure.specs.Answers.{Exposed, mean}
use Rattle.exposure.specs.declared.Mean.{Mean}
use Rattle.exposure.specs.declared.Sums.{Sums}

-- no epoch is later
abbrev pub most_epochs : ℕ
most_epochs = 65535

-- how many epochs a byte was at risk: closing epoch less opening epoch, where its interval is closed
abbrev pub epochs_at_risk : Interval → ℕ
epochs_at_risk None = 0
epochs_at_risk (Open opening) = 0
epochs_at_risk (Closed opening closing) = closing - opening

-- the interval is closed
abbrev pub is_closed : Interval → Bool
is_closed None = false
is_closed (Open opening) = false
is_closed (Closed opening closing) = true

-- one for a byte whose interval is closed
abbrev pub one_if_closed : Interval → ℕ
one_if_closed i = cond (is_closed i) 1 0

-- the sum of a number over the bytes 0 to n - 1
unfoldable pub total : (ℕ → ℕ) → ℕ → ℕ
total f zero = 0
total f (suc n) = total f n + f n

-- the sum of the epochs at risk, and the number of bytes whose interval is closed
abbrev pub sum_of : (interval : ℕ → Interval) (bytes : ℕ) → ℕ
sum_of interval bytes = total (λ b. epochs_at_risk (interval b)) bytes

abbrev pub closed_count : (interval : ℕ → Interval) (bytes : ℕ) → ℕ
closed_count interval bytes = total (λ b. one_if_closed (interval b)) bytes

abbrev pub sums_of : (interval : ℕ → Interval) (bytes : ℕ) → Sums
sums_of interval bytes = record { epochs = sum_of interval bytes; bytes = closed_count interval bytes }

-- quotient, remainder and divisor; 17 where no byte is closed
abbrev pub mean_of : (sum divisor : ℕ) → Exposed
mean_of sum zero = Err NoByteClosed
mean_of sum (suc n) = mean (sum / suc n) (sum % suc n) (suc n)

-- the mean exposure in a window of so many lines, where each byte has this interval
abbrev pub exposure_in : (lines : ℕ) (interval : ℕ → Interval) → Exposed
exposure_in lines interval = mean_of (sum_of interval (window_bytes lines)) (closed_count interval (window_bytes lines))

-- a run asked for its mean exposure, whatever run it is
abbrev pub exposure_of : Run → Exposed
exposure_of run = exposure_in (of_run run).lines (interval_in run.stored run.fenced run.opened run.closed)

-- the answer in the paper's numbers: quotient, remainder, divisor
abbrev pub mean_values : Mean → List ℕ
mean_values m = m.quotient ∷ m.remainder ∷ m.divisor ∷ []

abbrev pub exposure_reply : Exposed → Reply
exposure_reply e = reply_by mean_values refusal_reply e

-- quotient, remainder and divisor are the mean of a sum over so many bytes: "quotient × divisor + remainder is the sum, the remainder below
-- the divisor"
pub record IsMean (sum bytes quotient remainder divisor : ℕ) : Type 0 where
  pub is_sum : quotient * divisor + remainder ≡ sum
  pub below : remainder < divisor
  pub counted : divisor ≡ bytes
