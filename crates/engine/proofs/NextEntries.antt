-- A byte's last store, closing fence and first write-back after one more event.
use mathlib.Core.Path.{◌≡◌, refl, sym, ◌∙◌}
use mathlib.Core.Bool.{Bool, true, false, cond, not, ◌&&◌, and-false}
use mathlib.Core.List.{◌∷◌}
use mathlib.Core.Logic.{◌≢◌}
use Prim.Native.Nat.{ℕ, zero, suc, ◌≤◌}
use native.Mathlib.Omega.{arith}
use native.Mathlib.Decide.{ℕ_discrete as dec_eq}
use lib.Dec.{eqb}
use lib.ListN.{length}
use borrow.Author.Tests.{eqb-true, eq-eqb, ne_eqb, lt-ltb}
use Rattle.event.specs.declared.Event.{Event}
use Rattle.event.specs.declared.Record.{Record}
use Rattle.event.specs.Numbers.{kind_of}
use Rattle.window.specs.Window.{line_of}
use Rattle.event.proofs.Bools.{fails, and_left}
use Rattle.history.specs.Count.{first, or_else}
use Rattle.history.specs.History.{History, is, stores, writes_back, fences, covers_byte, touches_line, stores_byte, writes_back_line}
use Rattle.history.specs.Interval.{epoch_at, last_store, back_after, fence_after, closing_fence, first_back}
use Rattle.history.proofs.Count.{first_is_lem, first_same}
use Rattle.history.proofs.History.{is_newest, is_kept}
use Rattle.history.proofs.Interval.{last_store_within, closing_stored, closing_unstored, back_stored, back_unstored}
use Rattle.history.proofs.Meaning.Events.{epoch_kept, epoch_next}
use Rattle.engine.proofs.Histories.{last_next}
use Rattle.engine.proofs.ClosingFence.{closing_none}
use Rattle.engine.proofs.NextFence.{closing_kept, closing_next}
use Rattle.engine.proofs.ByEntries.{closing, closing_open, closing_never, closing_closed}

-- a store is neither a fence nor a write-back
pub store_no_fence : (b : ℕ) (e : Event) → stores_byte b e ≡ true → fences e ≡ false
store_no_fence b e t = fails (fences e) (λ f. omega (arith, eqb-true (kind_of e) 1 (and_left (stores e) (covers_byte b e) t), eqb-true (kind_of e) 3 f))

pub store_no_back : (b l : ℕ) (e : Event) → stores_byte b e ≡ true → writes_back_line l e ≡ false
store_no_back b l e t =
    fails (writes_back_line l e)
    (λ w. omega (arith, eqb-true (kind_of e) 1 (and_left (stores e) (covers_byte b e) t), eqb-true (kind_of e) 2 (and_left (writes_back e) (touches_line l e) w)))

-- the first write-back after a store with no event after it
back_none : (h : History) (l s : ℕ) → length h ≤ s → back_after h l s ≡ 0
unfolding back_after
back_none h l s k = go (dec_eq (back_after h l s) 0)
  where
    go : Dec (back_after h l s ≡ 0) → back_after h l s ≡ 0
    go (yes z) = z
    go (no z) = let f = first_is_lem (is (writes_back_line l) h) s (length h) z in absurd (omega (arith, f.after, f.by))

module _ (r : Record) (h : History) (b : ℕ) where
  -- the last store of a byte after one more event
  pub store_next : last_store (r ∷ h) b ≡ cond (stores_byte b r.event) (suc (length h)) (last_store h b)
  unfolding last_store
  store_next = last_next (stores_byte b) r h

  -- the epoch at which its interval opened
  pub opened_next : epoch_at (r ∷ h) (last_store (r ∷ h) b) ≡ cond (stores_byte b r.event) (epoch_at h (length h)) (epoch_at h (last_store h b))
  opened_next = rw store_next (go (stores_byte b r.event) refl)
    where
      go : (t : Bool) → stores_byte b r.event ≡ t →
          epoch_at (r ∷ h) (cond t (suc (length h)) (last_store h b)) ≡ cond t (epoch_at h (length h)) (epoch_at h (last_store h b))
      go true t = rw (epoch_next r h, store_no_fence b r.event t)
      go false t = epoch_kept r h (last_store h b) (last_store_within h b)

  -- a store to the byte is its last: there is no fence and no write-back after it yet
  module _ (t : stores_byte b r.event ≡ true) where
    now_last : last_store (r ∷ h) b ≡ suc (length h)
    now_last = store_next ∙ (rw t)

    fence_by_store : closing_fence (r ∷ h) b ≡ 0
    fence_by_store =
        closing_stored (r ∷ h) b (λ z. omega (arith, now_last, z)) ∙ closing_none (r ∷ h) (line_of b) (last_store (r ∷ h) b) (omega (arith, now_last))

    back_by_store : first_back (r ∷ h) b ≡ 0
    back_by_store =
        back_stored (r ∷ h) b (λ z. omega (arith, now_last, z)) ∙ back_none (r ∷ h) (line_of b) (last_store (r ∷ h) b) (omega (arith, now_last))

  -- after any other event it is what it was
  module _ (t : stores_byte b r.event ≡ false) where
    still_last : last_store (r ∷ h) b ≡ last_store h b
    still_last = store_next ∙ (rw t)

    unstored : last_store h b ≡ 0 → last_store (r ∷ h) b ≡ 0
    unstored z = still_last ∙ z

    stored : last_store h b ≢ 0 → last_store (r ∷ h) b ≢ 0
    stored s z = s (sym still_last ∙ z)

    fence_stored : last_store h b ≢ 0 → closing_fence (r ∷ h) b ≡ fence_after (r ∷ h) (line_of b) (last_store h b)
    fence_stored s = rw still_last at (closing_stored (r ∷ h) b (stored s))

    -- the closing fence is this event where it is a fence that closes the byte, and else as before
    fence_by_other : closing_fence (r ∷ h) b ≡ cond (fences r.event && closing h b) (suc (length h)) (closing_fence h b)
    fence_by_other = go (dec_eq (last_store h b) 0) (dec_eq (closing_fence h b) 0)
      where
        go : Dec (last_store h b ≡ 0) → Dec (closing_fence h b ≡ 0) →
            closing_fence (r ∷ h) b ≡ cond (fences r.event && closing h b) (suc (length h)) (closing_fence h b)
        go (yes z) d = rw (closing_never h b z, and-false) (closing_unstored (r ∷ h) b (unstored z) ∙ sym (closing_unstored h b z))
        go (no s) (yes z) =
            rw (closing_open h b s z, z) (fence_stored s ∙ closing_next r h (line_of b) (last_store h b) (sym (closing_stored h b s) ∙ z))
        go (no s) (no f) =
            let some : fence_after h (line_of b) (last_store h b) ≢ 0 = rw (closing_stored h b s) at f in
            rw (closing_closed h b s f, and-false) (fence_stored s ∙ closing_kept r h (line_of b) (last_store h b) some ∙ sym (closing_stored h b s))

    -- the first write-back after a store is this event where it writes the line back and there was none, and else as before
    back_after_next : back_after (r ∷ h) (line_of b) (last_store h b) ≡
        or_else (back_after h (line_of b) (last_store h b)) (cond (writes_back_line (line_of b) r.event) (suc (length h)) 0)
    unfolding back_after first
    back_after_next =
        rw (
          lt-ltb (last_store h b) (suc (length h)) (omega (arith, last_store_within h b)),
          is_newest (writes_back_line (line_of b)) r h,
          first_same (is (writes_back_line (line_of b)) (r ∷ h)) (is (writes_back_line (line_of b)) h) (last_store h b) (length h)
              (λ i k. is_kept (writes_back_line (line_of b)) r h i k),
        )

    back_by_other : first_back (r ∷ h) b ≡
        cond (writes_back_line (line_of b) r.event && (not (eqb (last_store h b) 0) && eqb (first_back h b) 0)) (suc (length h)) (first_back h b)
    back_by_other = go (dec_eq (last_store h b) 0)
      where
        or_else_lem : (x : ℕ) (w : Bool) → or_else x (cond w (suc (length h)) 0) ≡ cond (w && eqb x 0) (suc (length h)) x
        or_else_lem zero true = refl
        or_else_lem zero false = refl
        or_else_lem (suc x) w = rw (ne_eqb (suc x) 0 (λ z. absurd (omega arith)), and-false)

        go : Dec (last_store h b ≡ 0) → first_back (r ∷ h) b ≡
            cond (writes_back_line (line_of b) r.event && (not (eqb (last_store h b) 0) && eqb (first_back h b) 0)) (suc (length h)) (first_back h b)
        go (yes z) = rw (eq-eqb (last_store h b) 0 z, and-false) (back_unstored (r ∷ h) b (unstored z) ∙ sym (back_unstored h b z))
        go (no s) =
            rw (ne_eqb (last_store h b) 0 s, back_stored h b s)
            ((rw still_last at (back_stored (r ∷ h) b (stored s))) ∙ back_after_next ∙
            or_else_lem (back_after h (line_of b) (last_store h b)) (writes_back_line (line_of b) r.event))

  -- the closing fence and the first write-back after one more event
  pub fence_next : closing_fence (r ∷ h) b ≡ cond (stores_byte b r.event) 0 (cond (fences r.event && closing h b) (suc (length h)) (closing_fence h b))
  fence_next = go (stores_byte b r.event) refl
    where
      go : (t : Bool) → stores_byte b r.event ≡ t →
          closing_fence (r ∷ h) b ≡ cond t 0 (cond (fences r.event && closing h b) (suc (length h)) (closing_fence h b))
      go true t = fence_by_store t
      go false t = fence_by_other t

  pub back_next : first_back (r ∷ h) b ≡
      cond (stores_byte b r.event) 0
      (cond (writes_back_line (line_of b) r.event && (not (eqb (last_store h b) 0) && eqb (first_back h b) 0)) (suc (length h)) (first_back h b))
  back_next = go (stores_byte b r.event) refl
    where
      go : (t : Bool) → stores_byte b r.event ≡ t → first_back (r ∷ h) b ≡
          cond t 0
          (cond (writes_back_line (line_of b) r.event && (not (eqb (last_store h b) 0) && eqb (first_back h b) 0)) (suc (length h)) (first_back h b))
      go true t = back_by_store t
      go false t = back_by_other t
