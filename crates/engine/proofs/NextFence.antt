-- The closing fence of a store after one more event.
use mathlib.Core.Path.{◌≡◌, sym, ◌∙◌}
use mathlib.Core.Bool.{Bool, true, cond, ◌&&◌}
use mathlib.Core.List.{◌∷◌}
use mathlib.Core.Logic.{◌≢◌}
use Prim.Native.Nat.{ℕ, suc, ◌≤◌, ◌<◌}
use native.Mathlib.Nat.{le_refl}
use native.Mathlib.Omega.{arith}
use native.Mathlib.Decide.{dec_le, ℕ_discrete as dec_eq}
use lib.Dec.{ltb}
use lib.ListN.{length}
use borrow.Author.Tests.{ltb-true, lt-ltb}
use Rattle.event.specs.declared.Record.{Record}
use Rattle.event.proofs.Bools.{fails, and_left, and_right, both}
use Rattle.history.specs.History.{History, is, fences, writes_back_line}
use Rattle.history.specs.Interval.{fence_after}
use Rattle.history.specs.Image.{Forced}
use Rattle.history.proofs.History.{is_newest, is_number, is_last, is_latest}
use Rattle.history.proofs.Interval.{closing_fence_lem, forced_closes}
use Rattle.engine.proofs.Histories.{is_still, is_before}
use Rattle.engine.proofs.ClosingFence.{last_back, closing_within, closing_forced}

-- what forces a store in one list does so in another that has the same write-back and fence
forced_in : {h g : History} {l s m : ℕ} (x : Forced h l s m) →
    is (writes_back_line l) g x.back ≡ true → is fences g x.fence ≡ true → Forced g l s m
forced_in x w f = record { back = x.back; fence = x.fence; after = x.after; is_back = w; later = x.later; is_fence = f; by = x.by }

module _ (r : Record) (h : History) (l s : ℕ) where
  -- what forced a store still does, after one more event
  still_forced : {m : ℕ} → Forced h l s m → Forced (r ∷ h) l s m
  still_forced x = forced_in x (is_still (writes_back_line l) r h x.back x.is_back) (is_still fences r h x.fence x.is_fence)

  -- and what forces it by an earlier event did before
  was_forced : {m : ℕ} → Forced (r ∷ h) l s m → m ≤ length h → Forced h l s m
  was_forced x k =
      forced_in x (is_before (writes_back_line l) r h x.back x.is_back (omega arith)) (is_before fences r h x.fence x.is_fence (omega arith))

  -- a closing fence stays
  pub closing_kept : fence_after h l s ≢ 0 → fence_after (r ∷ h) l s ≡ fence_after h l s
  closing_kept z =
      let new = forced_closes (r ∷ h) (still_forced (closing_forced h l s z)) in
      let old = forced_closes h (was_forced (closing_forced (r ∷ h) l s new.there) (omega (arith, new.by, closing_within h l s z))) in
      omega (arith, new.by, old.by)

  -- the new event closes: it is a fence, and the line was written back since the store
  abbrev closes_now : Bool
  closes_now = fences r.event && ltb s (last_back h l)

  -- then the store is forced by it
  now_forced : closes_now ≡ true → Forced (r ∷ h) l s (suc (length h))
  now_forced t =
      let after : s < last_back h l = ltb-true s (last_back h l) (and_right (fences r.event) (ltb s (last_back h l)) t) in
      let back : is (writes_back_line l) h (last_back h l) ≡ true = is_last (writes_back_line l) h (λ e. omega arith) in
      record {
        back = last_back h l;
        fence = suc (length h);
        after = after;
        is_back = is_still (writes_back_line l) r h (last_back h l) back;
        later = omega (arith, (is_number (writes_back_line l) h (last_back h l) back).within);
        is_fence = is_newest fences r h ∙ and_left (fences r.event) (ltb s (last_back h l)) t;
        by = le_refl (suc (length h));
      }

  module _ (unclosed : fence_after h l s ≡ 0) (new : fence_after (r ∷ h) l s ≢ 0) where
    -- a closing fence that was not there before is the new event
    closing_newest : fence_after (r ∷ h) l s ≡ suc (length h)
    closing_newest = go (dec_le (fence_after (r ∷ h) l s) (length h))
      where
        go : Dec (fence_after (r ∷ h) l s ≤ length h) → fence_after (r ∷ h) l s ≡ suc (length h)
        go (yes k) = absurd ((forced_closes h (was_forced (closing_forced (r ∷ h) l s new) k)).there unclosed)
        go (no k) = omega (arith, closing_within (r ∷ h) l s new)

    -- and it closes
    closing_passes : closes_now ≡ true
    closing_passes =
        let x = closing_forced (r ∷ h) l s new in
        let back : is (writes_back_line l) h x.back ≡ true =
        is_before (writes_back_line l) r h x.back x.is_back (omega (arith, x.later, x.by, closing_newest)) in
        both (sym (is_newest fences r h) ∙ (rw closing_newest at (closing_fence_lem (r ∷ h) l s new)))
        (lt-ltb s (last_back h l) (omega (arith, x.after, is_latest (writes_back_line l) h x.back back)))

  -- so where there was no closing fence, the new event is one exactly if it closes
  pub closing_next : fence_after h l s ≡ 0 → fence_after (r ∷ h) l s ≡ cond closes_now (suc (length h)) 0
  closing_next z = go (dec_eq (fence_after (r ∷ h) l s) 0)
    where
      go : Dec (fence_after (r ∷ h) l s ≡ 0) → fence_after (r ∷ h) l s ≡ cond closes_now (suc (length h)) 0
      go (yes n) = rw (fails closes_now (λ t. (forced_closes (r ∷ h) (now_forced t)).there n)) n
      go (no n) = rw (closing_passes z n) (closing_newest z n)
