-- An event that an entry names counts unless it is older than the byte's last store: what a run's answers are by the entries themselves.
use mathlib.Core.Path.{◌≡◌, refl}
use mathlib.Core.Bool.{not, ◌&&◌, ◌||◌}
use Prim.Native.Nat.{ℕ, zero, suc, ◌<◌}
use native.Mathlib.Omega.{arith}
use native.Mathlib.Decide.{dec_lt, ℕ_discrete as dec_eq}
use mathlib.Core.Logic.{◌≢◌}
use lib.Dec.{eqb, leb, ltb}
use borrow.Author.Tests.{eq-eqb, ne_eqb, lt-ltb, le-ltb, le-leb, lt-leb}
use Rattle.event.specs.declared.Interval.TheVariants.{Open as OpenEpoch, Closed as ClosedEpochs}
use Rattle.event.specs.declared.NamedInterval.TheVariants.{Open, Closed}
use Rattle.event.specs.Reply.{without_events}
use Rattle.history.specs.Count.{if_some}
use Rattle.tables.specs.View.{since_store, interval_from, named_from}

-- it is older, or it counts
pub since_older : (store event : ℕ) → event < store → since_store store event ≡ 0
since_older store event k = rw (lt-ltb event store k)

pub since_counts : (store event : ℕ) → (event < store → ⊥) → since_store store event ≡ event
since_counts store event k = rw (le-ltb event store (omega (arith, k)))

-- a byte is open exactly if its closing fence is older than its last store
pub open_by : (store fenced : ℕ) → not (eqb store 0) && eqb (since_store store fenced) 0 ≡ ltb fenced store
open_by store fenced = go (dec_lt fenced store) (dec_eq store 0)
  where
    go : Dec (fenced < store) → Dec (store ≡ 0) → not (eqb store 0) && eqb (since_store store fenced) 0 ≡ ltb fenced store
    go (yes k) d = rw (lt-ltb fenced store k, ne_eqb store 0 (λ z. omega (arith, k, z)))
    go (no k) (yes z) = rw (eq-eqb store 0 z, le-ltb fenced store (omega (arith, k)))
    go (no k) (no z) = rw (le-ltb fenced store (omega (arith, k)), ne_eqb store 0 z, ne_eqb fenced 0 (λ e. z (omega (arith, k, e))))

-- a byte stored to was not closed by event m exactly if its closing fence is older than its last store or younger than m
pub open_at : (store fenced m : ℕ) → store ≢ 0 →
    not (not (eqb (since_store store fenced) 0) && leb (since_store store fenced) m) ≡ ltb fenced store || ltb m fenced
open_at store fenced m s = go (dec_lt fenced store) (dec_lt m fenced)
  where
    go : Dec (fenced < store) → Dec (m < fenced) →
        not (not (eqb (since_store store fenced) 0) && leb (since_store store fenced) m) ≡ ltb fenced store || ltb m fenced
    go (yes k) d = rw (lt-ltb fenced store k)
    go (no k) (yes d) =
        rw (le-ltb fenced store (omega (arith, k)), ne_eqb fenced 0 (λ e. s (omega (arith, k, e))), lt-leb fenced m d, lt-ltb m fenced d)
    go (no k) (no d) =
        rw (
          le-ltb fenced store (omega (arith, k)),
          ne_eqb fenced 0 (λ e. s (omega (arith, k, e))),
          le-leb fenced m (omega (arith, d)),
          le-ltb m fenced (omega (arith, d)),
        )

-- dropping the events of a byte's answer gives its interval
pub named_dropped : (store fenced opened closed written : ℕ) →
    without_events (named_from store fenced opened closed written) ≡ interval_from store fenced opened closed
named_dropped zero fenced opened closed written = refl
named_dropped (suc s) fenced opened closed written = go (since_store (suc s) fenced)
  where
    go : (f : ℕ) →
        without_events (if_some f (Open opened (suc s) (since_store (suc s) written)) (λ f. Closed opened closed (suc s) (since_store (suc s) written) f)) ≡
        if_some f (OpenEpoch opened) (λ f. ClosedEpochs opened closed)
    go zero = refl
    go (suc f) = refl
