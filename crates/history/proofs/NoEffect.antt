-- An event that stores no byte, writes no line back and is no fence changes no last store and no interval.
use mathlib.Core.Path.{◌≡◌, refl, ap, ◌∙◌, fun_ext}
use mathlib.Core.Bool.{Bool, true, false, cond, ◌&&◌}
use mathlib.Core.List.{◌∷◌}
use Prim.Native.Nat.{ℕ, zero, suc}
use native.Mathlib.Omega.{arith}
use lib.Dec.{ltb}
use lib.ListN.{length}
use Rattle.event.specs.declared.Event.{Event}
use Rattle.event.specs.declared.Record.{Record}
use Rattle.history.specs.Count.{count, last, first, or_else, if_some}
use Rattle.history.specs.History.{History, is, fences, stores_byte, writes_back_line}
use Rattle.history.specs.Interval.{epoch_at, last_store, back_after, fence_after, interval_of, closing_fence, named_of}
use Rattle.history.proofs.History.{is_unchanged, is_beyond}

-- one more number that fails
pub last_unchanged : (p : ℕ → Bool) (n : ℕ) → p (suc n) ≡ false → last p (suc n) ≡ last p n
unfolding last
last_unchanged p n e = rw e

first_unchanged : (p : ℕ → Bool) (s n : ℕ) → p (suc n) ≡ false → first p s (suc n) ≡ first p s n
unfolding first
first_unchanged p s n e = rw e (go (ltb s (suc n)) (first p s n))
  where
    go : (b : Bool) (x : ℕ) → or_else x (cond (b && false) (suc n) 0) ≡ x
    go true zero = refl
    go true (suc x) = refl
    go false zero = refl
    go false (suc x) = refl

pub record NoEffect (e : Event) : Type 0 where
  pub no_store : (b : ℕ) → stores_byte b e ≡ false
  pub no_back : (l : ℕ) → writes_back_line l e ≡ false
  pub no_fence : fences e ≡ false

-- the last event that passes, after one that does not
pub is_last_unchanged : (p : Event → Bool) (r : Record) (h : History) → p r.event ≡ false → last (is p (r ∷ h)) (length (r ∷ h)) ≡ last (is p h) (length h)
is_last_unchanged p r h e = rw (is_unchanged p r h e) (last_unchanged (is p h) (length h) (is_beyond p h (suc (length h)) (omega arith)))

is_first_unchanged : (p : Event → Bool) (r : Record) (h : History) (s : ℕ) → p r.event ≡ false → first (is p (r ∷ h)) s (length (r ∷ h)) ≡ first (is p h) s (length h)
is_first_unchanged p r h s e = rw (is_unchanged p r h e) (first_unchanged (is p h) s (length h) (is_beyond p h (suc (length h)) (omega arith)))

module _ (r : Record) (h : History) (q : NoEffect r.event) where
  pub last_store_unchanged : (b : ℕ) → last_store (r ∷ h) b ≡ last_store h b
  unfolding last_store
  last_store_unchanged b = is_last_unchanged (stores_byte b) r h (q.no_store b)

  epoch_unchanged : (m : ℕ) → epoch_at (r ∷ h) m ≡ epoch_at h m
  unfolding epoch_at
  epoch_unchanged m = ap (λ (p : ℕ → Bool). count p m) (is_unchanged fences r h q.no_fence)

  back_after_unchanged : (l s : ℕ) → back_after (r ∷ h) l s ≡ back_after h l s
  unfolding back_after
  back_after_unchanged l s = is_first_unchanged (writes_back_line l) r h s (q.no_back l)

  fence_after_unchanged : (l s : ℕ) → fence_after (r ∷ h) l s ≡ fence_after h l s
  unfolding fence_after
  fence_after_unchanged l s =
      ap (λ (w : ℕ). if_some w 0 (λ w. first (is fences (r ∷ h)) w (length (r ∷ h)))) (back_after_unchanged l s) ∙
      ap (λ (f : ℕ → ℕ). if_some (back_after h l s) 0 f) (fun_ext (λ w. is_first_unchanged fences r h w q.no_fence))

  pub closing_unchanged : (b : ℕ) → closing_fence (r ∷ h) b ≡ closing_fence h b
  unfolding closing_fence
  closing_unchanged b = simp (last_store_unchanged, fence_after_unchanged)

  pub interval_unchanged : (b : ℕ) → interval_of (r ∷ h) b ≡ interval_of h b
  unfolding interval_of
  interval_unchanged b = simp (last_store_unchanged, fence_after_unchanged, epoch_unchanged)

  pub named_unchanged : (b : ℕ) → named_of (r ∷ h) b ≡ named_of h b
  unfolding named_of
  named_unchanged b = simp (last_store_unchanged, back_after_unchanged, fence_after_unchanged, epoch_unchanged)
