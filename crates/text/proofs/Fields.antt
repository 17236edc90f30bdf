-- Text in a field of so many columns.
use mathlib.Core.Path.{◌≡◌}
use mathlib.Core.List.{List}
use Prim.Native.Nat.{ℕ, zero, suc, ◌-◌, ◌≤◌}
use native.Mathlib.Nat.{sub-zero, zero-sub}
use native.Mathlib.Omega.{arith}
use lib.ListN.{length, drop, length-append, length-replicate}
use lib.Seq.{take_all}
use Rattle.text.specs.Text.{out, put}
use Rattle.text.specs.Field.{blanks, right, padded}
use Rattle.text.proofs.Filled.{filled}

-- a text that is not longer than its field fills it
pub right_length : (width : ℕ) (s : List ℕ) → length s ≤ width → length (right width s) ≡ width
right_length width s k = omega (arith, length-append (blanks (width - length s)) s, length-replicate {A = ℕ} (width - length s) 32)

pub padded_length : (width : ℕ) (s : List ℕ) → length s ≤ width → length (padded width s) ≡ width
padded_length width s k = omega (arith, length-append s (blanks (width - length s)), length-replicate {A = ℕ} (width - length s) 32)

-- a text put at the start of a field of blanks is padded
drop_blanks : (k n : ℕ) → drop k (blanks n) ≡ blanks (n - k)
drop_blanks zero n = rw (sub-zero n)
drop_blanks (suc k) zero = rw (zero-sub (suc k))
drop_blanks (suc k) (suc n) = let less : suc n - suc k ≡ n - k = omega arith in rw less (drop_blanks k n)

pub padded_put : (width : ℕ) (s : List ℕ) → length s ≤ width → (put s (out (blanks width) 0)).bytes ≡ padded width s
padded_put width s k =
    rw (filled s (blanks width), length-replicate {A = ℕ} width 32, take_all width s k, drop_blanks (length s) width)
