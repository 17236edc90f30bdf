-- Laws of event numbers, over any test on events.
use mathlib.Core.Path.{◌≡◌, refl, sym, ap, ◌∙◌, fun_ext}
use mathlib.Core.Bool.{Bool, true, false, cond}
use mathlib.Core.List.{[], ◌∷◌}
use mathlib.Core.Logic.{◌≢◌}
use Prim.Native.Nat.{ℕ, suc, ◌≤◌, ◌<◌}
use native.Mathlib.Omega.{arith}
use native.Mathlib.Decide.{ℕ_discrete as dec_eq}
use lib.Dec.{eqb}
use lib.ListN.{length}
use borrow.Author.Tests.{eqb-true, eq-eqb, ne_eqb}
use Rattle.event.specs.declared.Event.{Event}
use Rattle.event.specs.declared.Record.{Record}
use Rattle.event.proofs.Bools.{contradiction, fails}
use Rattle.history.specs.History.{History, is}
use Rattle.history.specs.Count.{count, last}
use Rattle.history.proofs.Count.{count_same, last_passes, last_latest}

module _ (p : Event → Bool) where
  -- the newest event has the number of all of them
  pub is_newest : (r : Record) (h : History) → is p (r ∷ h) (suc (length h)) ≡ p r.event
  unfolding is
  is_newest r h = ap (λ (b : Bool). cond b (p r.event) (is p h (suc (length h)))) (eq-eqb (suc (length h)) (suc (length h)) refl)

  -- any other number is that of an earlier event
  pub is_older : (r : Record) (h : History) (i : ℕ) → (i ≡ suc (length h) → ⊥) → is p (r ∷ h) i ≡ is p h i
  unfolding is
  is_older r h i f = rw (ne_eqb i (suc (length h)) f)

  -- numbers go from 1 to the count of events
  pub record Number (h : History) (i : ℕ) : Type 0 where
    pub above : 0 < i
    pub within : i ≤ length h

  pub is_number : (h : History) (i : ℕ) → is p h i ≡ true → Number h i
  unfolding is
  is_number [] i e = absurd (contradiction e refl)
  is_number (r ∷ h) i e = go (eqb i (suc (length h))) refl e (is_number h i)
    where
      go : (b : Bool) → eqb i (suc (length h)) ≡ b → cond b (p r.event) (is p h i) ≡ true → (is p h i ≡ true → Number h i) → Number (r ∷ h) i
      go true k e rec = let n : i ≡ suc (length h) = eqb-true i (suc (length h)) k in record { above = omega arith; within = omega arith }
      go false k e rec = record { above = (rec e).above; within = omega (arith, (rec e).within) }

  -- a later event does not change what an earlier one was
  pub is_kept : (r : Record) (h : History) (i : ℕ) → i ≤ length h → is p (r ∷ h) i ≡ is p h i
  is_kept r h i k = is_older r h i (λ e. omega arith)

  -- no event has a number beyond their count
  pub is_beyond : (h : History) (i : ℕ) → length h < i → is p h i ≡ false
  is_beyond h i k = fails (is p h i) (λ e. omega (arith, (is_number h i e).within))

  -- an event that does not pass changes no answer
  pub is_unchanged : (r : Record) (h : History) → p r.event ≡ false → is p (r ∷ h) ≡ is p h
  is_unchanged r h f = fun_ext (λ i. at i (dec_eq i (suc (length h))))
    where
      at : (i : ℕ) → Dec (i ≡ suc (length h)) → is p (r ∷ h) i ≡ is p h i
      at i (yes e) = rw e (is_newest r h ∙ f ∙ sym (is_beyond h (suc (length h)) (omega arith)))
      at i (no k) = is_older r h i k

  -- how many events pass: earlier counts stay, and the newest event adds one where it passes
  pub count_kept : (r : Record) (h : History) (m : ℕ) → m ≤ length h → count (is p (r ∷ h)) m ≡ count (is p h) m
  count_kept r h m k = count_same (is p (r ∷ h)) (is p h) m (λ i j. is_kept r h i (omega arith))

  pub count_newest : (r : Record) (h : History) → count (is p (r ∷ h)) (suc (length h)) ≡ cond (p r.event) (suc (count (is p h) (length h))) (count (is p h) (length h))
  unfolding count
  count_newest r h = rw (is_newest r h, count_kept r h (length h) (omega arith))

  -- the last event that passes, in the whole list
  pub is_last : (h : History) → last (is p h) (length h) ≢ 0 → is p h (last (is p h) (length h)) ≡ true
  is_last h k = last_passes (is p h) (length h) k

  pub is_latest : (h : History) (i : ℕ) → is p h i ≡ true → i ≤ last (is p h) (length h)
  is_latest h i e = last_latest (is p h) (length h) i e (is_number h i e).within

  -- where one passes there is a last one
  pub is_some : (h : History) (i : ℕ) → is p h i ≡ true → last (is p h) (length h) ≢ 0
  is_some h i e z = omega (arith, (is_number h i e).above, is_latest h i e, z)

-- a test that another one implies
pub is_implied : (p q : Event → Bool) → ((e : Event) → p e ≡ true → q e ≡ true) → (h : History) (i : ℕ) → is p h i ≡ true → is q h i ≡ true
unfolding is
is_implied p q f [] i e = absurd (contradiction e refl)
is_implied p q f (r ∷ h) i e = go (eqb i (suc (length h))) e (is_implied p q f h i)
  where
    go : (b : Bool) → cond b (p r.event) (is p h i) ≡ true → (is p h i ≡ true → is q h i ≡ true) → cond b (q r.event) (is q h i) ≡ true
    go true e rec = f r.event e
    go false e rec = rec e
