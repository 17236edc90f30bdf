-- The tests on event numbers are those on the epochs of intervals.
use mathlib.Core.Path.{◌≡◌, ap}
use mathlib.Core.Bool.{Bool, true, cond, not, ◌&&◌, ◌||◌}
use mathlib.Core.Logic.{◌≢◌}
use Prim.Native.Nat.{ℕ, ◌≤◌}
use native.Mathlib.Omega.{arith}
use native.Mathlib.Decide.{dec_le, ℕ_discrete as dec_eq}
use lib.Dec.{eqb, leb, ltb}
use borrow.Author.Tests.{eq-eqb, ne_eqb, le-leb, lt-leb}
use Rattle.window.specs.Window.{line_of, word_of}
use Rattle.history.specs.History.{History, is, fences}
use Rattle.history.specs.Interval.{epoch_at, last_store, fence_after, interval_of}
use Rattle.history.specs.View.{of_history}
use Rattle.history.specs.Found.{at_risk, closed_by, breaks}
use Rattle.history.specs.ByEpochs.{opened_at, closed_by_epoch, risk_by_epochs, breaks_by_epochs}
use Rattle.history.proofs.Count.{count_mono, count_less}
use Rattle.history.proofs.Interval.{interval_none, interval_open, interval_closed, closing_stored, closing_fence_lem}

module _ (h : History) where
  -- a fence has happened by event m exactly if its epoch has begun by then
  fence_by : (f m : ℕ) → is fences h f ≡ true → leb f m ≡ leb (epoch_at h f) (epoch_at h m)
  unfolding epoch_at
  fence_by f m t = go (dec_le f m)
    where
      go : Dec (f ≤ m) → leb f m ≡ leb (epoch_at h f) (epoch_at h m)
      go (yes k) = rw (le-leb f m k, le-leb (epoch_at h f) (epoch_at h m) (count_mono (is fences h) f m k))
      go (no k) = rw (lt-leb f m (omega arith), lt-leb (epoch_at h f) (epoch_at h m) (count_less (is fences h) m f (omega arith) t))

  abbrev closing : ℕ → ℕ
  closing b = fence_after h (line_of b) (last_store h b)

  -- an interval opened at the epoch of its byte's last store
  opened_at_lem : (b : ℕ) → last_store h b ≢ 0 → opened_at (interval_of h b) ≡ epoch_at h (last_store h b)
  opened_at_lem b s = go (dec_eq (closing b) 0)
    where
      go : Dec (closing b ≡ 0) → opened_at (interval_of h b) ≡ epoch_at h (last_store h b)
      go (yes z) = rw (interval_open h b s z)
      go (no z) = rw (interval_closed h b s z)

  -- a byte has no closing fence exactly if its interval is open
  pub same_risk : (lines b : ℕ) → at_risk (of_history lines h) b ≡ risk_by_epochs h b
  same_risk lines b = go (dec_eq (last_store h b) 0) (dec_eq (closing b) 0)
    where
      go : Dec (last_store h b ≡ 0) → Dec (closing b ≡ 0) → at_risk (of_history lines h) b ≡ risk_by_epochs h b
      go (yes z) d = rw (interval_none h b z, eq-eqb (last_store h b) 0 z)
      go (no s) (yes z) = rw (interval_open h b s z, closing_stored h b s, ne_eqb (last_store h b) 0 s, eq-eqb (closing b) 0 z)
      go (no s) (no z) = rw (interval_closed h b s z, closing_stored h b s, ne_eqb (last_store h b) 0 s, ne_eqb (closing b) 0 z)

  -- it was closed by a store exactly if its interval was closed by the epoch of that store
  closed_by_lem : (lines kept lost : ℕ) → last_store h kept ≢ 0 → last_store h lost ≢ 0 →
      closed_by (of_history lines h) lost (last_store h kept) ≡ closed_by_epoch (interval_of h lost) (opened_at (interval_of h kept))
  closed_by_lem lines kept lost k s = rw (opened_at_lem kept k, closing_stored h lost s) (go (dec_eq (closing lost) 0))
    where
      go : Dec (closing lost ≡ 0) →
          not (eqb (closing lost) 0) && leb (closing lost) (last_store h kept) ≡ closed_by_epoch (interval_of h lost) (epoch_at h (last_store h kept))
      go (yes z) = rw (interval_open h lost s z, eq-eqb (closing lost) 0 z)
      go (no z) =
          rw (interval_closed h lost s z, ne_eqb (closing lost) 0 z)
          (fence_by (closing lost) (last_store h kept) (closing_fence_lem h (line_of lost) (last_store h lost) z))

  -- so the test of a pair is the same
  pub same_breaks : (lines kept lost : ℕ) → breaks (of_history lines h) kept lost ≡ breaks_by_epochs h kept lost
  same_breaks lines kept lost = go (dec_eq (last_store h kept) 0) (dec_eq (last_store h lost) 0)
    where
      go : Dec (last_store h kept ≡ 0) → Dec (last_store h lost ≡ 0) → breaks (of_history lines h) kept lost ≡ breaks_by_epochs h kept lost
      go (yes z) d = rw (eq-eqb (last_store h kept) 0 z)
      go (no k) (yes z) = rw (ne_eqb (last_store h kept) 0 k, eq-eqb (last_store h lost) 0 z)
      go (no k) (no s) =
          ap
          (λ (c : Bool).
          not (eqb (last_store h kept) 0) && not (eqb (last_store h lost) 0) &&
          cond (eqb (line_of kept) (line_of lost))
          (ltb (last_store h kept) (last_store h lost) || eqb (last_store h kept) (last_store h lost) && not (eqb (word_of kept) (word_of lost)))
          (not c))
          (closed_by_lem lines kept lost k s)
