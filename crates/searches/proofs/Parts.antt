-- A search made part by part: over so many places in front, and then over what is left.
use mathlib.Core.Path.{◌≡◌, refl, sym, ◌∙◌, ap}
use mathlib.Core.Bool.{Bool, true, false, cond, ◌||◌}
use mathlib.Core.Option.{Option, none, some}
use Prim.Native.Nat.{ℕ, zero, suc, ◌+◌, ◌-◌, ◌*◌, ◌/◌, ◌≤◌, ◌<◌}
use native.Mathlib.Omega.{arith}
use native.Mathlib.Nat.{zero-add, add-zero}
use native.Mathlib.Decide.{ℕ_discrete as dec_eq}
use Rattle.history.specs.Found.{lowest}
use Rattle.std.specs.Prelude.{Option as Answer}
use Rattle.std.specs.Prelude.{Some}
use Rattle.searches.specs.Tests.{searched, is_found, skipped}
use Rattle.searches.proofs.FromFront.{left, left_all}

-- what the first search found, or else what the second did
abbrev or_next : Option ℕ → Option ℕ → Option ℕ
or_next none next = next
or_next (some x) next = some x

-- a search over m places and then n more
lowest_add : (p : ℕ → Bool) (m n x : ℕ) → lowest p x (m + n) ≡ or_next (lowest p x m) (lowest p (x + m) n)
unfolding lowest
lowest_add p zero n x = rw (zero-add, add-zero)
lowest_add p (suc m) n x =
    let k : suc m + n ≡ suc (m + n) = omega arith in
    let l : x + suc m ≡ suc x + m = omega arith in
    rw (k, l, lowest_add p m n (suc x)) (go (p x))
  where
    go : (t : Bool) →
        cond t (some x) (or_next (lowest p (suc x) m) (lowest p (suc x + m) n)) ≡
        or_next (cond t (some x) (lowest p (suc x) m)) (lowest p (suc x + m) n)
    go true = refl
    go false = refl

-- what found nothing is none
pub not_found : (found : Option ℕ) → is_found found ≡ false → found ≡ none
not_found none e = refl
not_found (some x) e = let z : ◌≡◌ {A = ℕ} 0 1 = cc in absurd (omega arith)

-- one more place at the end
pub found_more : (p : ℕ → Bool) (at n : ℕ) {found t : Bool} → found ≡ is_found (lowest p at n) → t ≡ p (at + n) →
    (found || t) ≡ is_found (lowest p at (n + 1))
unfolding lowest
found_more p at n e k = rw (e, k, lowest_add p n 1 at) (go (lowest p at n) (p (at + n)))
  where
    go : (found : Option ℕ) (t : Bool) → (is_found found || t) ≡ is_found (or_next found (cond t (some (at + n)) none))
    go none true = refl
    go none false = refl
    go (some x) t = refl

-- where nothing is found no place passes
pub none_there : (p : ℕ → Bool) (x n : ℕ) → is_found (lowest p x n) ≡ false → (k : ℕ) → x ≤ k → k < x + n → p k ≡ false
unfolding lowest
none_there p x zero e k a b = absurd (omega arith)
none_there p x (suc n) e k a b = go (p x) refl e (dec_eq k x) (none_there p (suc x) n)
  where
    go : (t : Bool) → p x ≡ t → is_found (cond t (some x) (lowest p (suc x) n)) ≡ false → Dec (k ≡ x) →
        (is_found (lowest p (suc x) n) ≡ false → (k : ℕ) → suc x ≤ k → k < suc x + n → p k ≡ false) → p k ≡ false
    go true h f d rest = let z : ◌≡◌ {A = ℕ} 0 1 = cc in absurd (omega arith)
    go false h f (yes same) rest = rw same h
    go false h f (no d) rest = rest f k (omega arith) (omega arith)

-- what is left, as a part in front and what is left after it
left_add : (p : ℕ → Bool) (end x m : ℕ) → x + m ≤ end → left p end x ≡ or_next (lowest p x m) (left p end (x + m))
left_add p end x m h =
    let k : end - x ≡ m + (end - (x + m)) = omega arith in
    rw k (lowest_add p m (end - (x + m)) x)

-- a part in which nothing passes is left behind
left_part : (p : ℕ → Bool) (end x m : ℕ) → x + m ≤ end → lowest p x m ≡ none → left p end (x + m) ≡ left p end x
left_part p end x m h e = sym (left_add p end x m h ∙ rw e)

-- a loop from `at` on, with the search over what is left at x the same as the whole
module _ (p : ℕ → Bool) (at n x : ℕ) (same : left p (at + n) x ≡ left p (at + n) at) where
  -- it is left at a part in which something passes
  pub part_here : (m : ℕ) {y : ℕ} → x + m ≤ at + n → lowest p x m ≡ some y → Some y ≡ searched (lowest p at n)
  unfolding searched
  part_here m {y} h e =
      let here : left p (at + n) x ≡ some y = left_add p (at + n) x m h ∙ rw e in
      ap searched (sym here ∙ same ∙ left_all p at n)

  pub part_found : (m : ℕ) {s : Answer ℕ} → x + m ≤ at + n → is_found (lowest p x m) ≡ true → s ≡ searched (lowest p x m) → s ≡ searched (lowest p at n)
  part_found m {s} h e found = go (lowest p x m) refl e
    where
      go : (o : Option ℕ) → lowest p x m ≡ o → is_found o ≡ true → s ≡ searched (lowest p at n)
      go none k f = let z : ◌≡◌ {A = ℕ} 0 1 = cc in absurd (omega arith)
      go (some y) k f =
          let here : left p (at + n) x ≡ lowest p x m = left_add p (at + n) x m h ∙ (rw k) in
          found ∙ ap searched (sym here ∙ same ∙ left_all p at n)

  -- it goes on after one in which nothing does
  pub part_later : (m : ℕ) → x + m ≤ at + n → lowest p x m ≡ none → left p (at + n) (x + m) ≡ left p (at + n) at
  part_later m h e = left_part p (at + n) x m h e ∙ same

  -- it ends, and what is left is searched
  pub part_last : {s : Answer ℕ} → s ≡ searched (left p (at + n) x) → s ≡ searched (lowest p at n)
  part_last e = e ∙ ap searched (same ∙ left_all p at n)

-- what is left to skip
abbrev pub left_skip : (ℕ → Bool) → ℕ → ℕ → ℕ
left_skip p end x = skipped p x ((end - x) / 8)

-- after each group eight less are left
eight_less : (end x : ℕ) → x + 8 ≤ end → (end - x) / 8 ≡ suc ((end - (x + 8)) / 8)
eight_less end x h = omega arith

-- a loop from `at` on, with what is left to skip at x leading to the same place as the whole
module _ (p : ℕ → Bool) (at n x : ℕ) (same : left_skip p (at + n) x ≡ left_skip p (at + n) at) where
  -- at the first place all is left
  whole : left_skip p (at + n) x ≡ skipped p at (n / 8)
  whole = let e : at + n - at ≡ n = omega arith in rw e at same

  -- it ends at a group of which a number passes
  pub skip_here : x + 8 ≤ at + n → is_found (lowest p x 8) ≡ true → x ≡ skipped p at (n / 8)
  unfolding skipped
  skip_here h e = let here : left_skip p (at + n) x ≡ x = rw (eight_less (at + n) x h, e) in sym here ∙ whole

  -- it goes on after one of which none does
  pub skip_next : x + 8 ≤ at + n → is_found (lowest p x 8) ≡ false → left_skip p (at + n) (x + 8) ≡ left_skip p (at + n) at
  unfolding skipped
  skip_next h e = let next : left_skip p (at + n) (x + 8) ≡ left_skip p (at + n) x = rw (eight_less (at + n) x h, e) in next ∙ same

  -- it ends where less than eight are left
  pub skip_end : at + n < x + 8 → x ≡ skipped p at (n / 8)
  unfolding skipped
  skip_end h =
      let e : (at + n - x) / 8 ≡ 0 = omega arith in
      let here : left_skip p (at + n) x ≡ x = rw e in
      sym here ∙ whole

-- after some groups passed over, the search over what is left is the same
skip_left : (p : ℕ → Bool) (end k x : ℕ) → x + k * 8 ≤ end →
    (skipped p x k ≤ end) × (left p end (skipped p x k) ≡ left p end x)
unfolding skipped
skip_left p end zero x h = (omega arith, refl)
skip_left p end (suc k) x h = go (is_found (lowest p x 8)) refl (skip_left p end k (x + 8) (omega arith))
  where
    go : (t : Bool) → is_found (lowest p x 8) ≡ t →
        (skipped p (x + 8) k ≤ end) × (left p end (skipped p (x + 8) k) ≡ left p end (x + 8)) →
        (cond t x (skipped p (x + 8) k) ≤ end) × (left p end (cond t x (skipped p (x + 8) k)) ≡ left p end x)
    go true e rest = (omega arith, refl)
    go false e rest = (rest.0, rest.1 ∙ left_part p end x 8 (omega arith) (not_found (lowest p x 8) e))

-- after the skip it is the whole search
module _ (p : ℕ → Bool) (at n : ℕ) {b : ℕ} (skip : b ≡ skipped p at (n / 8)) where
  pub skip_inside : b ≤ at + n
  skip_inside = rw skip (skip_left p (at + n) (n / 8) at (omega arith)).0

  pub skip_same : lowest p b (at + n - b) ≡ lowest p at n
  skip_same = rw skip ((skip_left p (at + n) (n / 8) at (omega arith)).1 ∙ left_all p at n)
