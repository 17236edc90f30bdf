-- The closing fence of a store: the first fence after the first write-back after it.
use mathlib.Core.Path.{◌≡◌}
use mathlib.Core.Bool.{true}
use mathlib.Core.Logic.{◌≢◌}
use Prim.Native.Nat.{ℕ, ◌≤◌, ◌<◌}
use native.Mathlib.Nat.{le_refl}
use native.Mathlib.Omega.{arith}
use native.Mathlib.Decide.{dec_le, ℕ_discrete as dec_eq}
use lib.ListN.{length}
use borrow.Author.Tests.{eqb-true}
use Rattle.event.specs.declared.Event.{Event}
use Rattle.event.specs.Numbers.{kind_of}
use Rattle.window.specs.Window.{line_of}
use Rattle.event.proofs.Bools.{and_left}
use Rattle.history.specs.Count.{last}
use Rattle.history.specs.History.{History, is, writes_back, fences, touches_line, writes_back_line}
use Rattle.history.specs.Interval.{last_store, fence_after, closing_fence}
use Rattle.history.specs.Image.{Forced}
use Rattle.history.proofs.History.{is_number, is_last}
use Rattle.history.proofs.Interval.{closing_stored, closing_unstored, closing_fence_lem, forced_closes, closes_forced}
use Rattle.engine.proofs.Histories.{is_apart}

-- the last write-back of a line
abbrev pub last_back : History → ℕ → ℕ
last_back h l = last (is (writes_back_line l) h) (length h)

-- a write-back is no fence
pub back_no_fence : (l : ℕ) (e : Event) → writes_back_line l e ≡ true → fences e ≡ true → ⊥
back_no_fence l e s t = omega (arith, eqb-true (kind_of e) 2 (and_left (writes_back e) (touches_line l e) s), eqb-true (kind_of e) 3 t)

module _ (h : History) (l s : ℕ) where
  -- the closing fence is an event of the list
  pub closing_within : fence_after h l s ≢ 0 → fence_after h l s ≤ length h
  closing_within z = (is_number fences h (fence_after h l s) (closing_fence_lem h l s z)).within

  -- a store with a closing fence is followed by a write-back of its line and that fence
  pub closing_forced : fence_after h l s ≢ 0 → Forced h l s (fence_after h l s)
  closing_forced z = closes_forced h (record { there = z; by = le_refl (fence_after h l s) })

  -- a store with no event after it has none
  pub closing_none : length h ≤ s → fence_after h l s ≡ 0
  closing_none k = go (dec_eq (fence_after h l s) 0)
    where
      go : Dec (fence_after h l s ≡ 0) → fence_after h l s ≡ 0
      go (yes z) = z
      go (no z) = let x = closing_forced z in absurd (omega (arith, x.after, x.later, x.by, closing_within z))

  -- where none has closed it, a write-back after the store is later than the last fence
  pub back_unfenced : fence_after h l s ≡ 0 → s < last_back h l → last (is fences h) (length h) < last_back h l
  back_unfenced z k = go (dec_le (last_back h l) fence)
    where
      fence : ℕ
      fence = last (is fences h) (length h)

      is_back : is (writes_back_line l) h (last_back h l) ≡ true
      is_back = is_last (writes_back_line l) h (λ e. omega arith)

      go : Dec (last_back h l ≤ fence) → fence < last_back h l
      go (no d) = omega arith
      go (yes d) = absurd ((forced_closes h closed).there z)
        where
          is_fence : is fences h fence ≡ true
          is_fence = is_last fences h (λ e. omega arith)

          differ : last_back h l ≢ fence
          differ e = is_apart (writes_back_line l) fences (back_no_fence l) h (last_back h l) is_back (rw e is_fence)

          closed : Forced h l s fence
          closed =
              record {
                back = last_back h l;
                fence = fence;
                after = k;
                is_back = is_back;
                later = omega (arith, differ);
                is_fence = is_fence;
                by = le_refl fence;
              }

-- the fence that closed a byte's interval is an event of the list
pub closing_event : (h : History) (b : ℕ) → closing_fence h b ≢ 0 → closing_fence h b ≤ length h
closing_event h b z = go (dec_eq (last_store h b) 0)
  where
    go : Dec (last_store h b ≡ 0) → closing_fence h b ≤ length h
    go (yes n) = absurd (z (closing_unstored h b n))
    go (no s) = rw (closing_stored h b s) (closing_within h (line_of b) (last_store h b) (rw (closing_stored h b s) at z))
