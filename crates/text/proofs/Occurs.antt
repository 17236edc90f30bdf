-- How often a byte occurs in a text. The digits of a number are 48 and above, and a field adds blanks alone.
use mathlib.Core.Path.{◌≡◌, refl}
use mathlib.Core.Logic.{◌≢◌}
use mathlib.Core.Bool.{Bool, true, false, cond}
use mathlib.Core.List.{List, [], ◌∷◌, ◌++◌}
use Prim.Native.Nat.{ℕ, zero, suc, ◌+◌, ◌-◌, ◌/◌, ◌%◌, ◌<◌}
use native.Mathlib.Omega.{arith}
use lib.Dec.{ltb}
use lib.ListN.{length}
use borrow.Author.Tests.{ne_eqb}
use Rattle.text.specs.Text.{digit, decimal_in, decimal}
use Rattle.text.specs.Field.{blanks, right, padded}
use Rattle.text.specs.Occurs.{occurs}

pub occurs_append : (b : ℕ) (s t : List ℕ) → occurs b (s ++ t) ≡ occurs b s + occurs b t
occurs_append b [] t = omega arith
occurs_append b (x ∷ s) t = omega (arith, occurs_append b s t)

-- two texts that lack a byte
pub both_lack : (b : ℕ) (s t : List ℕ) → occurs b s ≡ 0 → occurs b t ≡ 0 → occurs b (s ++ t) ≡ 0
both_lack b s t e f = omega (arith, occurs_append b s t)

digit_lacks : (b d : ℕ) → b < 48 → occurs b (digit d ∷ []) ≡ 0
digit_lacks b d k = rw (ne_eqb (digit d) b (λ e. omega arith))

digits_lack : (b k n : ℕ) → b < 48 → occurs b (decimal_in k n) ≡ 0
unfolding decimal_in
digits_lack b zero n low = refl
digits_lack b (suc k) n low = go (ltb n 10) (digits_lack b k (n / 10) low)
  where
    go : (t : Bool) → occurs b (decimal_in k (n / 10)) ≡ 0 → occurs b (cond t (digit n ∷ []) (decimal_in k (n / 10) ++ digit (n % 10) ∷ [])) ≡ 0
    go true e = digit_lacks b n low
    go false e = both_lack b (decimal_in k (n / 10)) (digit (n % 10) ∷ []) e (digit_lacks b (n % 10) low)

pub decimal_lacks : (b n : ℕ) → b < 48 → occurs b (decimal n) ≡ 0
decimal_lacks b n low = digits_lack b 10 n low

blanks_lack : (b n : ℕ) → 32 ≢ b → occurs b (blanks n) ≡ 0
blanks_lack b zero other = refl
blanks_lack b (suc n) other = rw (ne_eqb 32 b other, blanks_lack b n other)

pub right_lacks : (b width : ℕ) (s : List ℕ) → 32 ≢ b → occurs b s ≡ 0 → occurs b (right width s) ≡ 0
right_lacks b width s other e = both_lack b (blanks (width - length s)) s (blanks_lack b (width - length s) other) e

pub padded_lacks : (b width : ℕ) (s : List ℕ) → 32 ≢ b → occurs b s ≡ 0 → occurs b (padded width s) ≡ 0
padded_lacks b width s other e = both_lack b s (blanks (width - length s)) e (blanks_lack b (width - length s) other)
