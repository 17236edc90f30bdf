-- Laws of the sums over bytes.
use mathlib.Core.Path.{◌≡◌, refl}
use Prim.Native.Nat.{ℕ, zero, suc, ◌+◌, ◌*◌, ◌≤◌, ◌<◌}
use native.Mathlib.Omega.{arith}
use native.Mathlib.Decide.{ℕ_discrete as dec_eq}
use Rattle.event.specs.declared.Interval.{Interval}
use Rattle.event.specs.declared.Interval.TheVariants.{None, Open, Closed}
use Rattle.exposure.specs.Exposure.{epochs_at_risk, one_if_closed, total, sum_of, closed_count, sums_of, most_epochs}

-- one byte more
pub total_next : (f : ℕ → ℕ) (n : ℕ) → total f (n + 1) ≡ total f n + f n
unfolding total
total_next f n = let e : n + 1 ≡ suc n = omega arith in rw e

-- what is the same for each byte has the same sum
pub total_same : {f g : ℕ → ℕ} (n : ℕ) → ((b : ℕ) → b < n → f b ≡ g b) → total f n ≡ total g n
unfolding total
total_same zero e = refl
total_same (suc n) e = rw (total_same n (λ b k. e b (omega arith)), e n (omega arith))

-- the sum is 0 exactly where each is 0
pub total_none : {f : ℕ → ℕ} (n : ℕ) → ((b : ℕ) → b < n → f b ≡ 0) → total f n ≡ 0
unfolding total
total_none zero e = refl
total_none (suc n) e = rw (total_none n (λ b k. e b (omega arith)), e n (omega arith))

pub none_total : (f : ℕ → ℕ) (n b : ℕ) → total f n ≡ 0 → b < n → f b ≡ 0
unfolding total
none_total f zero b z k = absurd (omega arith)
none_total f (suc n) b z k = go (dec_eq b n) (λ j. none_total f n b (omega arith) j)
  where
    go : Dec (b ≡ n) → (b < n → f b ≡ 0) → f b ≡ 0
    go (yes e) before = rw e (omega arith)
    go (no e) before = before (omega (arith, e))

-- an interval that is not closed adds nothing, and a closed one one byte and so many epochs at most
pub risk_below : (i : Interval) → epochs_at_risk i ≤ most_epochs → epochs_at_risk i ≤ most_epochs * one_if_closed i
risk_below None k = omega arith
risk_below (Open opening) k = omega arith
risk_below (Closed opening closing) k = omega arith

pub one_at_most : (i : Interval) → one_if_closed i ≤ 1
one_at_most None = omega arith
one_at_most (Open opening) = omega arith
one_at_most (Closed opening closing) = omega arith

-- so the bytes that are counted are no more than there are
pub closed_few : (interval : ℕ → Interval) (n : ℕ) → closed_count interval n ≤ n
unfolding total
closed_few interval zero = omega arith
closed_few interval (suc n) = omega (arith, closed_few interval n, one_at_most (interval n))

-- and the sum is at most the most epochs for each of them
pub sum_below : (interval : ℕ → Interval) (n : ℕ) → ((b : ℕ) → b < n → epochs_at_risk (interval b) ≤ most_epochs) → sum_of interval n ≤ most_epochs * closed_count interval n
unfolding total
sum_below interval zero e = omega arith
sum_below interval (suc n) e = omega (arith, sum_below interval n (λ b k. e b (omega arith)), risk_below (interval n) (e n (omega arith)))

-- and at least one epoch for each, where each closed interval lasted one
pub sum_above : (interval : ℕ → Interval) (n : ℕ) → ((b : ℕ) → b < n → one_if_closed (interval b) ≤ epochs_at_risk (interval b)) → closed_count interval n ≤ sum_of interval n
unfolding total
sum_above interval zero e = omega arith
sum_above interval (suc n) e = omega (arith, sum_above interval n (λ b k. e b (omega arith)), e n (omega arith))

-- the sums over the first n bytes, with their bounds
pub record SumsAt (interval : ℕ → Interval) (n epochs bytes : ℕ) : Type 0 where
  pub sum : epochs ≡ sum_of interval n
  pub counted : bytes ≡ closed_count interval n
  pub few : epochs ≤ most_epochs * bytes
  pub within : bytes ≤ n

pub sums_none : (interval : ℕ → Interval) → SumsAt interval 0 0 0
unfolding total
sums_none interval = record { sum = refl; counted = refl; few = omega arith; within = omega arith }

-- and over one byte more
pub sums_next : {interval : ℕ → Interval} {n epochs bytes : ℕ} → SumsAt interval n epochs bytes → {i : Interval} → i ≡ interval n → {risk one : ℕ} →
    risk ≡ epochs_at_risk i → risk ≤ most_epochs → one ≡ one_if_closed i → SumsAt interval (n + 1) (epochs + risk) (bytes + one)
sums_next {interval} {n} s {i} is {risk} {one} r small o =
    record {
      sum = rw (total_next (λ b. epochs_at_risk (interval b)) n, ← is) (omega (arith, s.sum, r));
      counted = rw (total_next (λ b. one_if_closed (interval b)) n, ← is) (omega (arith, s.counted, o));
      few = omega (arith, s.few, risk_below i (omega arith), r, o);
      within = omega (arith, s.within, one_at_most i, o);
    }

-- a byte without an interval adds nothing
pub sums_same : {interval : ℕ → Interval} {n epochs bytes : ℕ} → SumsAt interval n epochs bytes → interval n ≡ None → SumsAt interval (n + 1) epochs bytes
sums_same {interval} {n} s none =
    record {
      sum = rw (total_next (λ b. epochs_at_risk (interval b)) n, none) (omega (arith, s.sum));
      counted = rw (total_next (λ b. one_if_closed (interval b)) n, none) (omega (arith, s.counted));
      few = s.few;
      within = omega (arith, s.within);
    }

-- over all of them
pub sums_done : {interval : ℕ → Interval} {n all epochs bytes : ℕ} → n ≡ all → SumsAt interval n epochs bytes →
    (record { epochs = epochs; bytes = bytes } ≡ sums_of interval all) × (epochs ≤ most_epochs * bytes)
sums_done e s = (rw (← e, s.sum, s.counted), s.few)
