-- A byte's last store and its interval, in terms of events.
use mathlib.Core.Path.{◌≡◌, refl, sym, ◌∙◌}
use mathlib.Core.Bool.{true}
use mathlib.Core.Logic.{◌≢◌}
use Prim.Native.Nat.{ℕ, zero, suc, ◌≤◌, ◌<◌}
use native.Mathlib.Omega.{arith}
use lib.ListN.{length}
use Rattle.event.specs.declared.Interval.{Interval}
use Rattle.event.specs.declared.Interval.TheVariants.{None, Open, Closed}
use Rattle.event.specs.declared.NamedInterval.{NamedInterval}
use Rattle.event.specs.declared.NamedInterval.TheVariants.{None as NoneNamed, Open as OpenNamed, Closed as ClosedNamed}
use Rattle.event.specs.Reply.{without_events}
use Rattle.window.specs.Window.{line_of}
use Rattle.history.specs.Count.{first, if_some}
use Rattle.history.specs.History.{History, is, fences, stores_byte, stores_line, writes_back_line}
use Rattle.history.specs.Interval.{epoch_at, last_store, back_after, fence_after, interval_of, closing_fence, first_back, named_of}
use Rattle.history.specs.Image.{Forced}
use Rattle.history.proofs.Count.{last_le, first_is_lem, first_earliest}
use Rattle.history.proofs.History.{is_implied, is_number, is_last, is_latest}
use Rattle.history.proofs.Window.{stores_line_lem}

-- the value at an event
pub if_some_lem : {A : Type 0} (n : ℕ) (x : A) (f : ℕ → A) → n ≢ 0 → if_some n x f ≡ f n
if_some_lem zero x f h = absurd (h refl)
if_some_lem (suc n) x f h = refl

module _ (h : History) where
  -- no store that covers the byte is later than its last store
  pub last_store_latest : (b s : ℕ) → is (stores_byte b) h s ≡ true → s ≤ last_store h b
  unfolding last_store
  last_store_latest b s t = is_latest (stores_byte b) h s t

  -- which is a store that covers the byte
  pub last_store_stores : (b : ℕ) → last_store h b ≢ 0 → is (stores_byte b) h (last_store h b) ≡ true
  unfolding last_store
  last_store_stores b e = is_last (stores_byte b) h e

  -- and an event of the list
  pub last_store_within : (b : ℕ) → last_store h b ≤ length h
  unfolding last_store
  last_store_within b = last_le (is (stores_byte b) h) (length h)

  -- it has a piece on the byte's line
  pub last_store_on_line : (b : ℕ) → last_store h b ≢ 0 → is (stores_line (line_of b)) h (last_store h b) ≡ true
  last_store_on_line b e = is_implied (stores_byte b) (stores_line (line_of b)) (stores_line_lem b) h (last_store h b) (last_store_stores b e)

  -- the closing fence is the first one after the first write-back
  pub fence_after_lem : (l s : ℕ) → back_after h l s ≢ 0 → fence_after h l s ≡ first (is fences h) (back_after h l s) (length h)
  unfolding fence_after
  fence_after_lem l s e = if_some_lem (back_after h l s) 0 (λ w. first (is fences h) w (length h)) e

  -- where there is none to write back there is none to close
  pub back_there : (l s : ℕ) → fence_after h l s ≢ 0 → back_after h l s ≢ 0
  unfolding fence_after
  back_there l s e z = e (rw z)

  -- what closes is a fence
  pub closing_fence_lem : (l s : ℕ) → fence_after h l s ≢ 0 → is fences h (fence_after h l s) ≡ true
  closing_fence_lem l s e =
      let eq : fence_after h l s ≡ first (is fences h) (back_after h l s) (length h) = fence_after_lem l s (back_there l s e) in
      rw eq (first_is_lem (is fences h) (back_after h l s) (length h) (rw eq at e)).passes

  -- a store that has its closing fence by m is followed by a write-back of its line and then a fence, by m
  pub record Closes (l s m : ℕ) : Type 0 where
    pub there : fence_after h l s ≢ 0
    pub by : fence_after h l s ≤ m

  pub closes_forced : {l s m : ℕ} → Closes l s m → Forced h l s m
  unfolding back_after
  closes_forced {l} {s} {m} x =
      let w = first_is_lem (is (writes_back_line l) h) s (length h) (back_there l s x.there) in
      let e : fence_after h l s ≡ first (is fences h) (back_after h l s) (length h) = fence_after_lem l s (back_there l s x.there) in
      let later : back_after h l s < fence_after h l s = rw e (first_is_lem (is fences h) (back_after h l s) (length h) (rw e at x.there)).after in
      record {
        back = back_after h l s;
        fence = fence_after h l s;
        after = w.after;
        is_back = w.passes;
        later = later;
        is_fence = closing_fence_lem l s x.there;
        by = omega (arith, later, x.by);
      }

  -- and the other way round
  pub forced_closes : {l s m : ℕ} → Forced h l s m → Closes l s m
  unfolding back_after
  forced_closes {l} {s} {m} x =
      let w = first_earliest (is (writes_back_line l) h) s (length h) x.back x.is_back x.after (is_number (writes_back_line l) h x.back x.is_back).within in
      let f = first_earliest (is fences h) (back_after h l s) (length h) x.fence x.is_fence (omega (arith, w.early, x.later)) (is_number fences h x.fence x.is_fence).within in
      let e : fence_after h l s ≡ first (is fences h) (back_after h l s) (length h) = fence_after_lem l s w.there in
      record { there = rw e f.there; by = rw e (omega (arith, f.early, x.by)) }

  -- of a byte stored to, it is that of its last store
  pub closing_stored : (b : ℕ) → last_store h b ≢ 0 → closing_fence h b ≡ fence_after h (line_of b) (last_store h b)
  unfolding closing_fence
  closing_stored b s = if_some_lem (last_store h b) 0 (λ s. fence_after h (line_of b) s) s

  -- and so is the first write-back
  pub back_stored : (b : ℕ) → last_store h b ≢ 0 → first_back h b ≡ back_after h (line_of b) (last_store h b)
  unfolding first_back
  back_stored b s = if_some_lem (last_store h b) 0 (λ s. back_after h (line_of b) s) s

  -- a byte never stored to has neither
  pub closing_unstored : (b : ℕ) → last_store h b ≡ 0 → closing_fence h b ≡ 0
  unfolding closing_fence
  closing_unstored b z = rw z

  pub back_unstored : (b : ℕ) → last_store h b ≡ 0 → first_back h b ≡ 0
  unfolding first_back
  back_unstored b z = rw z

  -- the interval's three cases
  pub interval_none : (b : ℕ) → last_store h b ≡ 0 → interval_of h b ≡ None
  unfolding interval_of
  interval_none b e = rw e

  from_store : (b s : ℕ) → Interval
  from_store b s = if_some (fence_after h (line_of b) s) (Open (epoch_at h s)) (λ f. Closed (epoch_at h s) (epoch_at h f))

  interval_stored : (b : ℕ) → last_store h b ≢ 0 → interval_of h b ≡ from_store b (last_store h b)
  unfolding interval_of from_store
  interval_stored b e = if_some_lem (last_store h b) None (from_store b) e

  pub interval_open : (b : ℕ) → last_store h b ≢ 0 → fence_after h (line_of b) (last_store h b) ≡ 0 → interval_of h b ≡ Open (epoch_at h (last_store h b))
  unfolding from_store
  interval_open b e z = interval_stored b e ∙ (rw z)

  pub interval_closed : (b : ℕ) → last_store h b ≢ 0 → fence_after h (line_of b) (last_store h b) ≢ 0 → interval_of h b ≡ Closed (epoch_at h (last_store h b)) (epoch_at h (fence_after h (line_of b) (last_store h b)))
  unfolding from_store
  interval_closed b e z =
      interval_stored b e ∙
      if_some_lem (fence_after h (line_of b) (last_store h b)) (Open (epoch_at h (last_store h b))) (λ f. Closed (epoch_at h (last_store h b)) (epoch_at h f)) z

  -- and those of the interval with its events
  pub named_none : (b : ℕ) → last_store h b ≡ 0 → named_of h b ≡ NoneNamed
  unfolding named_of
  named_none b e = rw e

  module _ (b : ℕ) (stored : last_store h b ≢ 0) where
    abbrev s : ℕ
    s = last_store h b

    abbrev named_open : NamedInterval
    named_open = OpenNamed (epoch_at h s) s (back_after h (line_of b) s)

    abbrev named_closed : ℕ → NamedInterval
    named_closed f = ClosedNamed (epoch_at h s) (epoch_at h f) s (back_after h (line_of b) s) f

    pub named_stored : named_of h b ≡ if_some (fence_after h (line_of b) s) named_open named_closed
    unfolding named_of
    named_stored = if_some_lem s NoneNamed _ stored

    pub named_opens : closing_fence h b ≡ 0 → named_of h b ≡ named_open
    named_opens z = named_stored ∙ (rw (sym (closing_stored b stored) ∙ z))

    pub named_closes : closing_fence h b ≢ 0 → named_of h b ≡ named_closed (closing_fence h b)
    named_closes z =
        let some : fence_after h (line_of b) s ≢ 0 = rw (closing_stored b stored) at z in
        rw (closing_stored b stored) (named_stored ∙ if_some_lem (fence_after h (line_of b) s) named_open named_closed some)

  -- dropping the events gives the interval
  pub named_interval : (b : ℕ) → without_events (named_of h b) ≡ interval_of h b
  unfolding named_of interval_of
  named_interval b = go (last_store h b)
    where
      closed : (s f : ℕ) →
          without_events (if_some f (OpenNamed (epoch_at h s) s (back_after h (line_of b) s)) (λ f. ClosedNamed (epoch_at h s) (epoch_at h f) s (back_after h (line_of b) s) f)) ≡
          if_some f (Open (epoch_at h s)) (λ f. Closed (epoch_at h s) (epoch_at h f))
      closed s zero = refl
      closed s (suc f) = refl

      go : (s : ℕ) →
          without_events
          (if_some s NoneNamed (λ s.
          if_some (fence_after h (line_of b) s) (OpenNamed (epoch_at h s) s (back_after h (line_of b) s)) (λ f.
          ClosedNamed (epoch_at h s) (epoch_at h f) s (back_after h (line_of b) s) f))) ≡
          if_some s None (λ s. if_some (fence_after h (line_of b) s) (Open (epoch_at h s)) (λ f. Closed (epoch_at h s) (epoch_at h f)))
      go zero = refl
      go (suc s) = closed (suc s) (fence_after h (line_of b) (suc s))
