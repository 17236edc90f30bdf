-- What the definitions of specs/ say, in plain words, so that a wrong definition is refused here.
-- Assumes nothing.
use mathlib.Core.Path.{◌≡◌, refl}
use Prim.Native.Nat.{ℕ, ◌+◌, ◌*◌, ◌≤◌, ◌<◌}
use native.Mathlib.Omega.{arith}
use borrow.Author.Tests.{lt-ltb}
use Rattle.window.specs.Window.{most_lines, window_bytes, line_of, word_bytes, word_of, line_start}

-- A line starts at its first byte.
pub line_start_is_first : (line : ℕ) → line < 64 → (line_of (line_start line) ≡ line) × ((byte : ℕ) → line_of byte ≡ line → line_start line ≤ byte)
line_start_is_first line h = simp (lt-ltb line 64 h) (omega arith)

-- A word is the eight bytes from an address divisible by 8 on.
pub record InWord (byte start : ℕ) : Type 0 where
  pub divisible : (n : ℕ) × (start ≡ n * 8)
  pub from : start ≤ byte
  pub to : byte < start + 8

pub in_word : (byte : ℕ) → InWord byte (word_of byte * word_bytes)
in_word byte = record { divisible = (word_of byte, refl); from = omega arith; to = omega arith }

-- A line holds the whole word of each of its bytes.
pub word_in_line : (b c : ℕ) → word_of b ≡ word_of c → line_of b ≡ line_of c
word_in_line b c e = omega (arith, e)

-- The largest address is 4,095: no window has one beyond, and the largest window has this one.
pub largest_address : (lines byte : ℕ) → lines ≤ most_lines → byte < window_bytes lines → byte ≤ 4095
largest_address lines byte few inside = omega arith

pub largest_is_one : 4095 < window_bytes most_lines
largest_is_one = omega arith
