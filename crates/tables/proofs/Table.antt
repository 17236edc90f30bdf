-- Laws of changes to a table.
use mathlib.Core.Path.{◌≡◌, refl, sym, ◌∙◌}
use mathlib.Core.Bool.{cond, ◌&&◌}
use mathlib.Core.List.{List, []}
use Prim.Native.Nat.{ℕ, zero, suc, ◌+◌, ◌-◌, min, ◌≤◌, ◌<◌}
use mathlib.Core.Logic.{◌≢◌}
use native.Mathlib.Omega.{arith}
use native.Mathlib.Nat.{add-zero}
use native.Mathlib.Numerals.{add-one}
use native.Mathlib.Decide.{dec_le, ℕ_discrete as dec_eq}
use lib.Dec.{leb, ltb}
use lib.ListN.{length, get_or, set, length-set}
use lib.Seq.{get_or-set_same, get_or-set_other, set-get_or, set_out}
use borrow.Author.Tests.{le-leb, lt-leb, lt-ltb, le-ltb}
use Rattle.tables.specs.Table.{changed}

module _ (f : ℕ → ℕ → ℕ) (at : ℕ) (xs : List ℕ) where
  -- a change keeps the length
  pub changed_length : (n : ℕ) → length (changed f at n xs) ≡ length xs
  unfolding changed
  changed_length zero = refl
  changed_length (suc n) = rw length-set (changed_length n)

  -- one more entry, as a loop writes it
  pub changed_more : (n : ℕ) → changed f at (n + 1) xs ≡ set (changed f at n xs) (at + n) (f (at + n) (get_or xs (at + n) 0))
  unfolding changed
  changed_more n = rw add-one

  -- an entry outside is as it was
  pub changed_above : (n k : ℕ) → at + n ≤ k → get_or (changed f at n xs) k 0 ≡ get_or xs k 0
  unfolding changed
  changed_above zero k h = refl
  changed_above (suc n) k h = get_or-set_other (changed f at n xs) (at + n) k (f (at + n) (get_or xs (at + n) 0)) 0 (λ e. absurd (omega arith)) ∙ changed_above n k (omega arith)

  pub changed_below : (n k : ℕ) → k < at → get_or (changed f at n xs) k 0 ≡ get_or xs k 0
  unfolding changed
  changed_below zero k h = refl
  changed_below (suc n) k h = get_or-set_other (changed f at n xs) (at + n) k (f (at + n) (get_or xs (at + n) 0)) 0 (λ e. absurd (omega arith)) ∙ changed_below n k h

  -- an entry inside is made from its place and what stood there
  pub changed_inside : (n k : ℕ) → at ≤ k → k < at + n → at + n ≤ length xs → get_or (changed f at n xs) k 0 ≡ f k (get_or xs k 0)
  unfolding changed
  changed_inside zero k h l s = absurd (omega arith)
  changed_inside (suc n) k h l s = go (dec_eq k (at + n)) (λ d. changed_inside n k h (omega arith) (omega arith))
    where
      go : Dec (k ≡ at + n) → (k ≢ at + n → get_or (changed f at n xs) k 0 ≡ f k (get_or xs k 0)) → get_or (changed f at (suc n) xs) k 0 ≡ f k (get_or xs k 0)
      go (yes e) rest =
          rw e
          (get_or-set_same (changed f at n xs) (at + n) (f (at + n) (get_or xs (at + n) 0)) 0
          (let same : length (changed f at n xs) ≡ length xs = changed_length n in omega arith))
      go (no d) rest = get_or-set_other (changed f at n xs) (at + n) k (f (at + n) (get_or xs (at + n) 0)) 0 d ∙ rest d

  -- an entry is made anew where it is one of them, and else as it was
  pub changed_entry : (n k : ℕ) → at + n ≤ length xs →
      get_or (changed f at n xs) k 0 ≡ cond (leb at k && ltb k (at + n)) (f k (get_or xs k 0)) (get_or xs k 0)
  changed_entry n k s = go (dec_le at k) (dec_le (at + n) k)
    where
      go : Dec (at ≤ k) → Dec (at + n ≤ k) → get_or (changed f at n xs) k 0 ≡ cond (leb at k && ltb k (at + n)) (f k (get_or xs k 0)) (get_or xs k 0)
      go (no a) d = rw (lt-leb at k (omega arith)) (changed_below n k (omega arith))
      go (yes a) (yes b) = rw (le-leb at k a, le-ltb k (at + n) b) (changed_above n k b)
      go (yes a) (no b) = rw (le-leb at k a, lt-ltb k (at + n) (omega arith)) (changed_inside n k a (omega arith) s)

  -- one turn of a loop that changes the entries in a row: what it reads is what stood there, and what it writes is one more change
  pub changed_turn : (n : ℕ) {v : ℕ} {ys : List ℕ} → ys ≡ changed f at n xs → v ≡ f (at + n) (get_or ys (at + n) 0) → set ys (at + n) v ≡ changed f at (n + 1) xs
  changed_turn n e k = rw (k, e, changed_more n, changed_above n (at + n) (omega arith))

  -- the loop's end
  pub changed_done : (i n : ℕ) {ys : List ℕ} → i ≤ n → n ≤ i → ys ≡ changed f at i xs → ys ≡ changed f at n xs
  changed_done i n h k e = let same : i ≡ n = omega arith in rw same at e

-- a change of as many entries as one and then another has
pub changed_add : (f : ℕ → ℕ → ℕ) (at m n : ℕ) (xs : List ℕ) → changed f at (m + n) xs ≡ changed f (at + m) n (changed f at m xs)
unfolding changed
changed_add f at m zero xs = rw add-zero
changed_add f at m (suc n) xs =
    let k : m + suc n ≡ suc (m + n) = omega arith in
    let o : at + (m + n) ≡ at + m + n = omega arith in
    rw (k, o, changed_add f at m n xs, changed_above f at xs m (at + m + n) (omega arith))

-- entries past the end are not there to be changed
pub changed_out : (f : ℕ → ℕ → ℕ) (at n : ℕ) (xs : List ℕ) → length xs ≤ at → changed f at n xs ≡ xs
unfolding changed
changed_out f at zero xs h = refl
changed_out f at (suc n) xs h =
    let same : length (changed f at n xs) ≡ length xs = changed_length f at xs n in
    set_out (changed f at n xs) (at + n) _ (omega arith) ∙ changed_out f at n xs h

pub changed_empty : (f : ℕ → ℕ → ℕ) (at n : ℕ) → changed f at n [] ≡ []
changed_empty f at n = changed_out f at n [] (omega arith)

-- so a loop over those that the table has changes them all
pub changed_room : (f : ℕ → ℕ → ℕ) (at n : ℕ) {m : ℕ} (xs : List ℕ) {ys : List ℕ} →
    m ≡ min n (length xs - at) → ys ≡ changed f at m xs → ys ≡ changed f at n xs
changed_room f at n {m} xs {ys} k e = go (dec_le n (length xs - at))
  where
    go : Dec (n ≤ length xs - at) → ys ≡ changed f at n xs
    go (yes h) = let same : m ≡ n = omega arith in rw same at e
    go (no h) =
        let all : n ≡ m + (n - m) = omega arith in
        let same : length (changed f at m xs) ≡ length xs = changed_length f at xs m in
        e ∙ sym (rw all (changed_add f at m (n - m) xs ∙ changed_out f (at + m) (n - m) (changed f at m xs) (omega arith)))

-- changes that make the same of each entry
pub changed_same : (f g : ℕ → ℕ → ℕ) (at n : ℕ) (xs : List ℕ) →
    ((k : ℕ) → at ≤ k → k < at + n → f k (get_or xs k 0) ≡ g k (get_or xs k 0)) → changed f at n xs ≡ changed g at n xs
unfolding changed
changed_same f g at zero xs h = refl
changed_same f g at (suc n) xs h = rw (changed_same f g at n xs (λ k a b. h k a (omega arith)), h (at + n) (omega arith) (omega arith))

-- a change that leaves each entry as it was
pub changed_kept : (f : ℕ → ℕ → ℕ) (at n : ℕ) (xs : List ℕ) →
    ((k : ℕ) → at ≤ k → k < at + n → f k (get_or xs k 0) ≡ get_or xs k 0) → changed f at n xs ≡ xs
unfolding changed
changed_kept f at zero xs h = refl
changed_kept f at (suc n) xs h =
    rw (changed_kept f at n xs (λ k a b. h k a (omega arith)), h (at + n) (omega arith) (omega arith)) (set-get_or xs (at + n) 0)
