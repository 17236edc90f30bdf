-- What one more event does to the interval of a byte, and to whether its line was written back since its last store and the last fence.
use mathlib.Core.Path.{◌≡◌, refl, sym, ◌∙◌}
use mathlib.Core.Bool.{Bool, true, false, cond, not, ◌&&◌, ◌||◌, and-false}
use mathlib.Core.List.{◌∷◌}
use mathlib.Core.Logic.{◌≢◌}
use Prim.Native.Nat.{ℕ, zero, suc, ◌≤◌}
use native.Mathlib.Nat.{le_refl}
use native.Mathlib.Omega.{arith}
use native.Mathlib.Decide.{ℕ_discrete as dec_eq}
use lib.Dec.{ltb}
use lib.ListN.{length}
use borrow.Author.Tests.{lt-ltb, le-ltb}
use Rattle.event.specs.declared.Record.{Record}
use Rattle.event.specs.declared.Interval.{Interval}
use Rattle.event.specs.declared.Interval.TheVariants.{None, Open, Closed}
use Rattle.event.proofs.Bools.{and_left}
use Rattle.window.specs.Window.{line_of}
use Rattle.history.specs.Count.{last, if_some}
use Rattle.history.specs.History.{History, is, fences, stores_byte, writes_back_line}
use Rattle.history.specs.Interval.{epoch_at, last_store, interval_of, closing_fence}
use Rattle.history.proofs.Count.{last_le}
use Rattle.history.proofs.Interval.{if_some_lem, last_store_within, closing_stored, interval_none, interval_open, interval_closed}
use Rattle.history.proofs.Meaning.Events.{epoch_kept, epoch_next}
use Rattle.engine.proofs.Histories.{last_next}
use Rattle.engine.proofs.ClosingFence.{last_back, closing_event}
use Rattle.engine.proofs.ByEntries.{backed, closing, closing_backed, closing_never, closing_closed}
use Rattle.engine.proofs.NextEntries.{store_next, opened_next, fence_next}
use Rattle.claims.proofs.Ends.{ends_if}
use Rattle.claims.proofs.Rules.{no_fence_lem}

module _ (n store back fence : ℕ) (atStore : store ≤ n) (atBack : back ≤ n) (atFence : fence ≤ n) where
  -- whether the last write-back is later than the last store and the last fence, after event n + 1
  later_next : (p w f : Bool) → (p || w ≡ true → f ≡ false) →
      ltb (cond p (suc n) store) (cond w (suc n) back) && ltb (cond f (suc n) fence) (cond w (suc n) back) ≡
      not p && (w || (not f && (ltb store back && ltb fence back)))
  later_next true true f k = rw (le-ltb (suc n) (suc n) (le_refl (suc n)))
  later_next true false f k = rw (le-ltb (suc n) back (omega arith))
  later_next false true f k = rw (k refl, lt-ltb store (suc n) (omega arith), lt-ltb fence (suc n) (omega arith))
  later_next false false true k = rw (le-ltb (suc n) back (omega arith)) (and-false (ltb store back))
  later_next false false false k = refl

-- an interval from the numbers of the last store and of the closing fence, and the epochs of the two
abbrev by_numbers : (store fence opened closed : ℕ) → Interval
by_numbers store fence opened closed = if_some store None (λ s. if_some fence (Open opened) (λ f. Closed opened closed))

by_numbers_lem : (h : History) (b : ℕ) →
    interval_of h b ≡ by_numbers (last_store h b) (closing_fence h b) (epoch_at h (last_store h b)) (epoch_at h (closing_fence h b))
by_numbers_lem h b = go (dec_eq (last_store h b) 0) (dec_eq (closing_fence h b) 0)
  where
    go : Dec (last_store h b ≡ 0) → Dec (closing_fence h b ≡ 0) →
        interval_of h b ≡ by_numbers (last_store h b) (closing_fence h b) (epoch_at h (last_store h b)) (epoch_at h (closing_fence h b))
    go (yes z) d = interval_none h b z ∙ (rw z)
    go (no s) (yes z) = interval_open h b s (sym (closing_stored h b s) ∙ z) ∙ sym (if_some_lem (last_store h b) None _ s ∙ (rw z))
    go (no s) (no f) =
        interval_closed h b s (rw (closing_stored h b s) at f) ∙
        sym (if_some_lem (last_store h b) None _ s ∙ if_some_lem (closing_fence h b) _ _ f ∙ (rw (closing_stored h b s)))

-- a store opens the interval at the epoch; a fence that closes a byte ends it
numbers_next : (p f backed closes : Bool) (n store fence opened closed next epoch : ℕ) →
    (store ≡ 0 → closes ≡ false) → (store ≢ 0 → fence ≢ 0 → closes ≡ false) → (store ≢ 0 → fence ≡ 0 → closes ≡ backed) →
    (p ≡ false → f && closes ≡ true → next ≡ suc epoch) → (p ≡ false → f && closes ≡ false → fence ≢ 0 → next ≡ closed) →
    by_numbers (cond p (suc n) store) (cond p 0 (cond (f && closes) (suc n) fence)) (cond p epoch opened) next ≡
    cond p (Open epoch) (ends_if (f && backed) (suc epoch) (by_numbers store fence opened closed))
numbers_next true f w c n s x o k m e never shut opens new old = refl
numbers_next false f w c n zero x o k m e never shut opens new old = sym (same (f && w))
  where
    same : (t : Bool) → ends_if t (suc e) None ≡ None
    same true = refl
    same false = refl
numbers_next false f w c n (suc s) zero o k m e never shut opens new old =
    rw (opens (λ z. absurd (omega arith)) refl) (go (f && w) (λ t. new refl ((rw (opens (λ z. absurd (omega arith)) refl)) ∙ t)))
  where
    go : (t : Bool) → (t ≡ true → m ≡ suc e) → by_numbers (suc s) (cond t (suc n) 0) o m ≡ ends_if t (suc e) (Open o)
    go true q = rw (q refl)
    go false q = refl
numbers_next false f w c n (suc s) (suc x) o k m e never shut opens new old =
    let none : f && c ≡ false = (rw (shut (λ z. absurd (omega arith)) (λ z. absurd (omega arith)))) ∙ and-false f in
    rw (none, old refl none (λ z. absurd (omega arith))) (sym (same (f && w)))
  where
    same : (t : Bool) → ends_if t (suc e) (Closed o k) ≡ Closed o k
    same true = refl
    same false = refl

module _ (r : Record) (h : History) (b : ℕ) where
  -- a store opens the interval at the present epoch, and a fence ends it where the line was written back
  pub interval_next :
      interval_of (r ∷ h) b ≡
      cond (stores_byte b r.event) (Open (epoch_at h (length h))) (ends_if (fences r.event && backed h b) (suc (epoch_at h (length h))) (interval_of h b))
  interval_next =
      by_numbers_lem (r ∷ h) b ∙
      (rw (opened_next r h b, store_next r h b, fence_next r h b, by_numbers_lem h b)
      (numbers_next (stores_byte b r.event) (fences r.event) (backed h b) (closing h b) (length h) (last_store h b) (closing_fence h b)
      (epoch_at h (last_store h b)) (epoch_at h (closing_fence h b)) _ (epoch_at h (length h)) (closing_never h b) (closing_closed h b) (closing_backed h b)
      closes_now closed_before))
    where
      closes_now : stores_byte b r.event ≡ false → fences r.event && closing h b ≡ true →
          epoch_at (r ∷ h) (cond (stores_byte b r.event) 0 (cond (fences r.event && closing h b) (suc (length h)) (closing_fence h b))) ≡
          suc (epoch_at h (length h))
      closes_now t c = rw (t, c, epoch_next r h, and_left (fences r.event) (closing h b) c)

      closed_before : stores_byte b r.event ≡ false → fences r.event && closing h b ≡ false → closing_fence h b ≢ 0 →
          epoch_at (r ∷ h) (cond (stores_byte b r.event) 0 (cond (fences r.event && closing h b) (suc (length h)) (closing_fence h b))) ≡
          epoch_at h (closing_fence h b)
      closed_before t c z = rw (t, c) (epoch_kept r h (closing_fence h b) (closing_event h b z))

  -- a store or a fence has no write-back after it yet, a write-back is one, and any other event leaves it as it was
  pub backed_next : backed (r ∷ h) b ≡ not (stores_byte b r.event) && (writes_back_line (line_of b) r.event || (not (fences r.event) && backed h b))
  backed_next =
      rw (store_next r h b, last_next (writes_back_line (line_of b)) r h, last_next fences r h)
      (later_next (length h) (last_store h b) (last_back h (line_of b)) (last (is fences h) (length h))
      (last_store_within h b) (last_le (is (writes_back_line (line_of b)) h) (length h)) (last_le (is fences h) (length h))
      (stores_byte b r.event) (writes_back_line (line_of b) r.event) (fences r.event) (no_fence_lem b (line_of b) r.event))
