-- What the digits of a number say, in plain words, so that a wrong definition is refused here.
use mathlib.Core.Path.{◌≡◌, refl, sym, ap, ◌∙◌}
use mathlib.Core.Bool.{Bool, true, false, cond}
use mathlib.Core.List.{List, [], ◌∷◌, ◌++◌}
use Prim.Native.Nat.{ℕ, zero, suc, ◌+◌, ◌*◌, ◌-◌, ◌/◌, ◌%◌, ◌^◌, ◌≤◌, ◌<◌}
use native.Mathlib.Omega.{arith}
use lib.Dec.{ltb}
use lib.ListN.{length, get_or, length-append, get_or-append}
use borrow.Author.Tests.{lt-ltb, le-ltb, ltb-true, ltb-false}
use Rattle.text.specs.Text.{digit, decimal_in, decimal}

-- where the digits allowed are enough, one more allowed changes nothing
enough : (k n : ℕ) → n < 10 ^ suc k → decimal_in (suc (suc k)) n ≡ decimal_in (suc k) n
unfolding decimal_in
enough zero n h = rw (lt-ltb n 10 (omega arith))
enough (suc k) n h =
    ap (λ (front : List ℕ). cond (ltb n 10) (digit n ∷ []) (front ++ digit (n % 10) ∷ [])) (enough k (n / 10) (omega arith))

-- a digit is written as such
pub decimal_digit : (n : ℕ) → n < 10 → decimal n ≡ digit n ∷ []
unfolding decimal_in
decimal_digit n h = rw (lt-ltb n 10 h)

-- any other number is written as its tenth and its last digit
pub decimal_ends : (n : ℕ) → n < 10 ^ 10 → 10 ≤ n → decimal n ≡ decimal (n / 10) ++ digit (n % 10) ∷ []
unfolding decimal_in
decimal_ends n h k = rw (le-ltb n 10 k, enough 8 (n / 10) (omega arith))

-- so what holds of a digit, and of a number where it holds of its tenth, holds of each number that the digits allowed are enough for
module _ (P : ℕ → List ℕ → Type 0) (one : (n : ℕ) → n < 10 → P n (digit n ∷ []))
    (ends : (n : ℕ) (front : List ℕ) → 10 ≤ n → P (n / 10) front → P n (front ++ digit (n % 10) ∷ [])) where
  by_tenths : (k n : ℕ) → n < 10 ^ suc k → P n (decimal_in (suc k) n)
  unfolding decimal_in
  by_tenths zero n h = rw (lt-ltb n 10 (omega arith)) (one n (omega arith))
  by_tenths (suc k) n h = go (ltb n 10) refl (by_tenths k (n / 10) (omega arith))
    where
      go : (b : Bool) → ltb n 10 ≡ b → P (n / 10) (decimal_in (suc k) (n / 10)) →
          P n (cond b (digit n ∷ []) (decimal_in (suc k) (n / 10) ++ digit (n % 10) ∷ []))
      go true e tenth = one n (ltb-true n 10 e)
      go false e tenth = ends n (decimal_in (suc k) (n / 10)) (ltb-false n 10 e) tenth

-- the number that digits say, read from the left; those before them say a number too
abbrev pub value_after : ℕ → List ℕ → ℕ
value_after before [] = before
value_after before (b ∷ rest) = value_after (10 * before + (b - 48)) rest

abbrev pub value : List ℕ → ℕ
value s = value_after 0 s

value_ends : (s : List ℕ) (before b : ℕ) → value_after before (s ++ b ∷ []) ≡ 10 * value_after before s + (b - 48)
value_ends [] before b = refl
value_ends (x ∷ s) before b = value_ends s (10 * before + (x - 48)) b

-- the digits of a number say the number
pub decimal_value : (n : ℕ) → n < 10 ^ 10 → value (decimal n) ≡ n
decimal_value n h =
    by_tenths (λ n s. value s ≡ n) (λ n k. omega arith) (λ n front k e. omega (arith, value_ends front 0 (digit (n % 10)))) 9 n h

-- each byte of a text is a digit, 0 to 9
abbrev pub Digits : List ℕ → Type 0
Digits s = (i : ℕ) → i < length s → (48 ≤ get_or s i 0) × (get_or s i 0 ≤ 57)

one_digit : (d : ℕ) → d < 10 → Digits (digit d ∷ [])
one_digit d k zero h = omega arith
one_digit d k (suc i) h = absurd (omega arith)

digits_end : (s : List ℕ) (d : ℕ) → d < 10 → Digits s → Digits (s ++ digit d ∷ [])
digits_end [] d k all i h = one_digit d k i h
digits_end (x ∷ s) d k all zero h = all 0 (omega arith)
digits_end (x ∷ s) d k all (suc i) h = digits_end s d k (λ j l. all (suc j) (omega arith)) i (omega arith)

pub decimal_digits : (n : ℕ) → n < 10 ^ 10 → Digits (decimal n)
decimal_digits n h = by_tenths (λ n s. Digits s) one_digit (λ n front k. digits_end front (n % 10) (omega arith)) 9 n h

-- there is a first byte, and it is 0 for the number 0 only
pub decimal_front : (n : ℕ) → n < 10 ^ 10 → (0 < length (decimal n)) × (get_or (decimal n) 0 0 ≡ digit 0 → n ≡ 0)
decimal_front n h =
    by_tenths (λ n s. (0 < length s) × (get_or s 0 0 ≡ digit 0 → n ≡ 0)) (λ n k. omega arith)
    (λ n front k e. (
      omega (arith, length-append front (digit (n % 10) ∷ [])),
      λ z. let tenth : n / 10 ≡ 0 = e.1 (sym (get_or-append front (digit (n % 10) ∷ []) 0 0 e.0) ∙ z) in absurd (omega arith),
    )) 9 n h

-- at most ten bytes, whatever the number
few_digits : (k n : ℕ) → length (decimal_in k n) ≤ k
unfolding decimal_in
few_digits zero n = omega arith
few_digits (suc k) n = go (ltb n 10) (few_digits k (n / 10))
  where
    go : (b : Bool) → length (decimal_in k (n / 10)) ≤ k →
        length (cond b (digit n ∷ []) (decimal_in k (n / 10) ++ digit (n % 10) ∷ [])) ≤ suc k
    go true front = omega arith
    go false front = omega (arith, length-append (decimal_in k (n / 10)) (digit (n % 10) ∷ []))

pub decimal_length : (n : ℕ) → length (decimal n) ≤ 10
decimal_length n = few_digits 10 n

-- and no more than the number needs
pub decimal_few : (m k n : ℕ) → n < 10 ^ suc k → length (decimal_in m n) ≤ suc k
unfolding decimal_in
decimal_few zero k n h = omega arith
decimal_few (suc m) zero n h = rw (lt-ltb n 10 (omega arith)) (omega arith)
decimal_few (suc m) (suc k) n h = go (ltb n 10) (decimal_few m k (n / 10) (omega arith))
  where
    go : (b : Bool) → length (decimal_in m (n / 10)) ≤ suc k → length (cond b (digit n ∷ []) (decimal_in m (n / 10) ++ digit (n % 10) ∷ [])) ≤ suc (suc k)
    go true front = omega arith
    go false front = omega (arith, length-append (decimal_in m (n / 10)) (digit (n % 10) ∷ []))

-- five for a number of 16 bits
pub five_digits : (n : ℕ) → n ≤ 65535 → length (decimal n) ≤ 5
five_digits n h = decimal_few 10 4 n (omega arith)
