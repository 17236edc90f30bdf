-- The last store and the persist interval of a byte, in plain words.
use mathlib.Core.Path.{◌≡◌, ◌∙◌}
use mathlib.Core.Bool.{Bool, true}
use mathlib.Core.Logic.{◌≢◌}
use Prim.Native.Nat.{ℕ, ◌<◌}
use native.Mathlib.Nat.{le_refl}
use native.Mathlib.Omega.{arith}
use native.Mathlib.Decide.{ℕ_discrete as dec_eq}
use lib.ListN.{length}
use Rattle.event.specs.declared.Event.{Event}
use Rattle.event.specs.declared.Interval.{Interval}
use Rattle.event.specs.declared.Interval.TheVariants.{None, Open, Closed}
use Rattle.event.specs.declared.NamedInterval.{NamedInterval}
use Rattle.event.specs.declared.NamedInterval.TheVariants.{None as NoneNamed, Open as OpenNamed, Closed as ClosedNamed}
use Rattle.window.specs.Window.{line_of}
use Rattle.history.specs.Count.{first}
use Rattle.history.specs.History.{History, is, fences, stores_byte, writes_back_line}
use Rattle.history.specs.Interval.{epoch_at, last_store, back_after, fence_after, interval_of, named_of}
use Rattle.history.proofs.Count.{first_is_lem, first_earliest}
use Rattle.history.proofs.History.{is_number}
use Rattle.history.proofs.Interval.{last_store_stores, last_store_latest, interval_none, interval_open, interval_closed, forced_closes, back_there, fence_after_lem, if_some_lem, named_none, named_stored}

-- the last store is a store that covers the byte, and no later one does; it is 0 where none does
pub data LastStore (h : History) (b : ℕ) : ℕ → Type 0 where
  never : ((s : ℕ) → is (stores_byte b) h s ≡ true → ⊥) → LastStore h b 0
  latest : {s : ℕ} → is (stores_byte b) h s ≡ true → ((t : ℕ) → s < t → is (stores_byte b) h t ≡ true → ⊥) → LastStore h b s

pub last_store_lem : (h : History) (b : ℕ) → LastStore h b (last_store h b)
last_store_lem h b = go (dec_eq (last_store h b) 0)
  where
    go : Dec (last_store h b ≡ 0) → LastStore h b (last_store h b)
    go (yes z) = rw z (LastStore.never (λ s t. omega (arith, last_store_latest h b s t, (is_number (stores_byte b) h s t).above, z)))
    go (no k) = LastStore.latest (last_store_stores h b k) (λ t l e. omega (arith, l, last_store_latest h b t e))

-- the first number after s that passes
pub record FirstAfter (p : ℕ → Bool) (s f : ℕ) : Type 0 where
  pub passes : p f ≡ true
  pub after : s < f
  pub before : (i : ℕ) → s < i → i < f → p i ≡ true → ⊥

first_after : (p : Event → Bool) (h : History) (s : ℕ) → first (is p h) s (length h) ≢ 0 → FirstAfter (is p h) s (first (is p h) s (length h))
first_after p h s k =
    let f = first_is_lem (is p h) s (length h) k in
    record { passes = f.passes; after = f.after; before = λ i j l e. omega (arith, l, (first_earliest (is p h) s (length h) i e j (is_number p h i e).within).early) }

-- a byte's interval: none where it was never stored to; open since the epoch of its last store where no write-back of its line
-- and then a fence follow that store; else closed at the epoch of the first fence after the first write-back after it
pub data IntervalIs (h : History) (b : ℕ) : Interval → Type 0 where
  unstored : LastStore h b 0 → IntervalIs h b None
  still_open : {s : ℕ} → LastStore h b s → s ≢ 0 →
      ((w f : ℕ) → s < w → is (writes_back_line (line_of b)) h w ≡ true → w < f → is fences h f ≡ true → ⊥) → IntervalIs h b (Open (epoch_at h s))
  now_closed : {s w f : ℕ} → LastStore h b s → s ≢ 0 → FirstAfter (is (writes_back_line (line_of b)) h) s w → FirstAfter (is fences h) w f →
      IntervalIs h b (Closed (epoch_at h s) (epoch_at h f))

pub interval_is : (h : History) (b : ℕ) → IntervalIs h b (interval_of h b)
unfolding back_after
interval_is h b = go (dec_eq (last_store h b) 0) (dec_eq (fence_after h (line_of b) (last_store h b)) 0)
  where
    go : Dec (last_store h b ≡ 0) → Dec (fence_after h (line_of b) (last_store h b) ≡ 0) → IntervalIs h b (interval_of h b)
    go (yes z) d = rw (interval_none h b z) (IntervalIs.unstored (rw z at (last_store_lem h b)))
    go (no k) (yes z) =
        rw (interval_open h b k z)
        (IntervalIs.still_open (last_store_lem h b) k
        (λ w f a t c e. (forced_closes h (record { back = w; fence = f; after = a; is_back = t; later = c; is_fence = e; by = le_refl f })).there z))
    go (no k) (no z) =
        let w = back_there h (line_of b) (last_store h b) z in
        let e = fence_after_lem h (line_of b) (last_store h b) w in
        rw (interval_closed h b k z)
        (IntervalIs.now_closed {f = fence_after h (line_of b) (last_store h b)} (last_store_lem h b) k (first_after (writes_back_line (line_of b)) h (last_store h b) w)
        (rw e (first_after fences h (back_after h (line_of b) (last_store h b)) (rw e at z))))

-- the first write-back of the line after a store, 0 where there is none yet
pub data FirstBack (h : History) (l s : ℕ) : ℕ → Type 0 where
  none_yet : ((w : ℕ) → s < w → is (writes_back_line l) h w ≡ true → ⊥) → FirstBack h l s 0
  first_is : {w : ℕ} → FirstAfter (is (writes_back_line l) h) s w → FirstBack h l s w

pub first_back_lem : (h : History) (l s : ℕ) → FirstBack h l s (back_after h l s)
unfolding back_after
first_back_lem h l s = go (dec_eq (back_after h l s) 0)
  where
    go : Dec (back_after h l s ≡ 0) → FirstBack h l s (back_after h l s)
    go (yes z) =
        rw z
        (FirstBack.none_yet
        (λ w a t. (first_earliest (is (writes_back_line l) h) s (length h) w t a (is_number (writes_back_line l) h w t).within).there z))
    go (no k) = FirstBack.first_is (first_after (writes_back_line l) h s k)

-- the interval with its events names the last store, the first write-back of the byte's line after it and, where it is closed, the first
-- fence after that write-back
pub data NamedIs (h : History) (b : ℕ) : NamedInterval → Type 0 where
  unstored : LastStore h b 0 → NamedIs h b NoneNamed
  still_open : {s w : ℕ} → LastStore h b s → s ≢ 0 → FirstBack h (line_of b) s w →
      ((w f : ℕ) → s < w → is (writes_back_line (line_of b)) h w ≡ true → w < f → is fences h f ≡ true → ⊥) → NamedIs h b (OpenNamed (epoch_at h s) s w)
  now_closed : {s w f : ℕ} → LastStore h b s → s ≢ 0 → FirstAfter (is (writes_back_line (line_of b)) h) s w → FirstAfter (is fences h) w f →
      NamedIs h b (ClosedNamed (epoch_at h s) (epoch_at h f) s w f)

pub named_is : (h : History) (b : ℕ) → NamedIs h b (named_of h b)
unfolding back_after
named_is h b = go (dec_eq (last_store h b) 0) (dec_eq (fence_after h (line_of b) (last_store h b)) 0)
  where
    go : Dec (last_store h b ≡ 0) → Dec (fence_after h (line_of b) (last_store h b) ≡ 0) → NamedIs h b (named_of h b)
    go (yes z) d = rw (named_none h b z) (NamedIs.unstored (rw z at (last_store_lem h b)))
    go (no k) (yes z) =
        rw (named_stored h b k, z)
        (NamedIs.still_open (last_store_lem h b) k (first_back_lem h (line_of b) (last_store h b))
        (λ w f a t c e. (forced_closes h (record { back = w; fence = f; after = a; is_back = t; later = c; is_fence = e; by = le_refl f })).there z))
    go (no k) (no z) =
        let w = back_there h (line_of b) (last_store h b) z in
        let e = fence_after_lem h (line_of b) (last_store h b) w in
        rw (named_stored h b k ∙ if_some_lem (fence_after h (line_of b) (last_store h b)) _ _ z)
        (NamedIs.now_closed {f = fence_after h (line_of b) (last_store h b)} (last_store_lem h b) k (first_after (writes_back_line (line_of b)) h (last_store h b) w)
        (rw e (first_after fences h (back_after h (line_of b) (last_store h b)) (rw e at z))))
