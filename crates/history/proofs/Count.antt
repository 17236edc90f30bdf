-- Laws of count, last and first, over any test on numbers.
use mathlib.Core.Path.{◌≡◌, refl, sym, ap, ◌∙◌}
use mathlib.Core.Bool.{Bool, true, false, cond, ◌&&◌}
use mathlib.Core.Logic.{◌≢◌, ◌⊎◌, inl, inr, ⊎_elim}
use Prim.Native.Nat.{ℕ, zero, suc, ◌≤◌, ◌<◌}
use native.Mathlib.Nat.{le_refl, le_trans}
use native.Mathlib.Decide.{dec_le}
use native.Mathlib.Omega.{arith}
use lib.Dec.{ltb}
use borrow.Author.Tests.{ltb-true, lt-ltb}
use Rattle.event.proofs.Bools.{contradiction, and_left, and_right, both}
use Rattle.history.specs.Count.{count, last, first, or_else}

-- a number up to suc m is suc m or up to m
pub at_most_suc : {i m : ℕ} → i ≤ suc m → (i ≡ suc m) ⊎ (i ≤ m)
at_most_suc {i} {m} h = go (dec_le i m)
  where
    go : Dec (i ≤ m) → (i ≡ suc m) ⊎ (i ≤ m)
    go (yes p) = inr p
    go (no p) = inl (omega arith)

nonzero : {k : ℕ} → suc k ≢ 0
nonzero e = omega arith

or_else_lem : (x y : ℕ) → x ≢ 0 → or_else x y ≡ x
or_else_lem zero y h = absurd (h refl)
or_else_lem (suc x) y h = refl

-- tests that agree up to m count the same
pub count_same : (p q : ℕ → Bool) (m : ℕ) → ((i : ℕ) → i ≤ m → p i ≡ q i) → count p m ≡ count q m
unfolding count
count_same p q zero f = refl
count_same p q (suc m) f = rw (f (suc m) (le_refl (suc m)), count_same p q m (λ i k. f i (omega arith)))

module _ (p : ℕ → Bool) where
  count_suc_le : (m : ℕ) → count p m ≤ count p (suc m)
  unfolding count
  count_suc_le m = go (p (suc m))
    where
      go : (b : Bool) → count p m ≤ cond b (suc (count p m)) (count p m)
      go true = omega arith
      go false = omega arith

  -- counts grow
  pub count_mono : (m n : ℕ) → m ≤ n → count p m ≤ count p n
  count_mono zero zero h = omega arith
  count_mono (suc m) zero h = absurd (omega arith)
  count_mono m (suc n) h =
      ⊎_elim (λ (e : m ≡ suc n). rw e (le_refl _))
      (λ (k : m ≤ n). le_trans (count_mono m n k) (count_suc_le n))
      (at_most_suc h)

  -- and are larger at a number that passes than before it
  pub count_less : (m s : ℕ) → m < s → p s ≡ true → count p m < count p s
  unfolding count
  count_less m zero h t = absurd (omega arith)
  count_less m (suc s) h t = rw t (omega (arith, count_mono m s (omega arith)))

  -- no more pass than there are
  pub count_few : (m : ℕ) → count p m ≤ m
  unfolding count
  count_few zero = omega arith
  count_few (suc m) = go (p (suc m)) (count_few m)
    where
      go : (b : Bool) → count p m ≤ m → cond b (suc (count p m)) (count p m) ≤ suc m
      go true few = omega arith
      go false few = omega arith

  -- the last is at most the bound
  pub last_le : (m : ℕ) → last p m ≤ m
  unfolding last
  last_le zero = omega arith
  last_le (suc m) = go (p (suc m)) (last_le m)
    where
      go : (b : Bool) → last p m ≤ m → cond b (suc m) (last p m) ≤ suc m
      go true k = omega arith
      go false k = omega arith

  -- it passes
  pub last_passes : (m : ℕ) → last p m ≢ 0 → p (last p m) ≡ true
  unfolding last
  last_passes zero h = absurd (h refl)
  last_passes (suc m) h = go (p (suc m)) refl (last_passes m) h
    where
      go : (b : Bool) → p (suc m) ≡ b → (last p m ≢ 0 → p (last p m) ≡ true) → cond b (suc m) (last p m) ≢ 0 → p (cond b (suc m) (last p m)) ≡ true
      go true e k h = e
      go false e k h = k h

  -- and none that passes is later
  pub last_latest : (m i : ℕ) → p i ≡ true → i ≤ m → i ≤ last p m
  unfolding last
  last_latest zero i t h = h
  last_latest (suc m) i t h = go (p (suc m)) refl (at_most_suc h) (last_latest m i t)
    where
      go : (b : Bool) → p (suc m) ≡ b → (i ≡ suc m) ⊎ (i ≤ m) → (i ≤ m → i ≤ last p m) → i ≤ cond b (suc m) (last p m)
      go true e k rec = h
      go false e (inl k) rec = absurd (contradiction t (ap p k ∙ e))
      go false e (inr k) rec = rec k

  -- the first: where it is not 0 it passes, after s and by m
  pub record First (s m f : ℕ) : Type 0 where
    pub passes : p f ≡ true
    pub after : s < f
    pub by : f ≤ m

  later : {s m f : ℕ} → First s m f → First s (suc m) f
  later x = record { passes = x.passes; after = x.after; by = omega arith }

  pub first_is_lem : (s m : ℕ) → first p s m ≢ 0 → First s m (first p s m)
  unfolding first
  first_is_lem s zero h = absurd (h refl)
  first_is_lem s (suc m) h = go (first p s m) refl (ltb s (suc m) && p (suc m)) refl (first_is_lem s m) h
    where
      go : (k : ℕ) → first p s m ≡ k → (b : Bool) → ltb s (suc m) && p (suc m) ≡ b → (first p s m ≢ 0 → First s m (first p s m)) →
          or_else k (cond b (suc m) 0) ≢ 0 → First s (suc m) (or_else k (cond b (suc m) 0))
      go zero e true t rec h = record { passes = and_right (ltb s (suc m)) (p (suc m)) t; after = ltb-true s (suc m) (and_left (ltb s (suc m)) (p (suc m)) t); by = omega arith }
      go zero e false t rec h = absurd (h refl)
      go (suc k) e b t rec h = later (rw e at (rec (λ (z : first p s m ≡ 0). nonzero (sym e ∙ z))))

  -- and it is there, and not later, where another such number is
  pub record Earliest (s m i : ℕ) : Type 0 where
    pub there : first p s m ≢ 0
    pub early : first p s m ≤ i

  -- the number found stays found
  kept_first : (s m i : ℕ) → Earliest s m i → Earliest s (suc m) i
  unfolding first
  kept_first s m i x =
      let e : first p s (suc m) ≡ first p s m = or_else_lem (first p s m) (cond (ltb s (suc m) && p (suc m)) (suc m) 0) x.there in
      record { there = rw e x.there; early = rw e x.early }

  new_first : (s m : ℕ) → p (suc m) ≡ true → s < suc m → Earliest s (suc m) (suc m)
  unfolding first
  new_first s m t h = go (first p s m) refl
    where
      tried : cond (ltb s (suc m) && p (suc m)) (suc m) 0 ≡ suc m
      tried = rw (both (lt-ltb s (suc m) h) t)

      go : (k : ℕ) → first p s m ≡ k → Earliest s (suc m) (suc m)
      go zero e =
          let r : first p s (suc m) ≡ suc m = rw (e, tried) in
          record { there = rw r nonzero; early = omega (arith, r) }
      go (suc k) e =
          let f : first p s m ≢ 0 = λ z. nonzero (sym e ∙ z) in
          kept_first s m (suc m) (record { there = f; early = omega (arith, (first_is_lem s m f).by) })

  pub first_earliest : (s m i : ℕ) → p i ≡ true → s < i → i ≤ m → Earliest s m i
  first_earliest s zero i t h k = absurd (omega arith)
  first_earliest s (suc m) i t h k =
      ⊎_elim (λ (e : i ≡ suc m). rw e (new_first s m (rw e at t) (rw e at h)))
      (λ (l : i ≤ m). kept_first s m i (first_earliest s m i t h l))
      (at_most_suc k)

-- the first of tests that agree
pub first_same : (p q : ℕ → Bool) (s m : ℕ) → ((i : ℕ) → i ≤ m → p i ≡ q i) → first p s m ≡ first q s m
unfolding first
first_same p q s zero h = refl
first_same p q s (suc m) h = rw (h (suc m) (omega arith), first_same p q s m (λ i k. h i (omega arith)))
