-- Bytes of one line, asked of their line first: they are looked at where the line passes.
use mathlib.Core.Path.{◌≡◌, ◌∙◌, ap}
use mathlib.Core.Bool.{Bool, true, false, ◌&&◌}
use mathlib.Core.Option.{none}
use Prim.Native.Nat.{ℕ, ◌+◌, ◌*◌, ◌≤◌, ◌<◌}
use native.Mathlib.Omega.{arith}
use borrow.Author.Tests.{lt-ltb}
use Rattle.window.specs.Window.{line_of, line_start}
use Rattle.history.specs.Found.{lowest}
use Rattle.std.specs.Prelude.{Option as Answer}
use Rattle.searches.specs.Tests.{searched}
use Rattle.searches.proofs.Searched.{lowest_none, lowest_same}

-- the byte passes, asked of its line first
abbrev pub by_line : (line byte : ℕ → Bool) → ℕ → Bool
by_line line byte b = line (line_of b) && byte b

-- some bytes of line l
module _ (line byte : ℕ → Bool) (l at n : ℕ) (from : l * 64 ≤ at) (to : at + n ≤ l * 64 + 64) where
  -- of a line that does not pass none does
  pub line_passed : line l ≡ false → lowest (by_line line byte) at n ≡ none
  line_passed e = lowest_none (by_line line byte) n at (λ k a b. let on : line_of k ≡ l = omega arith in rw (on, e))

  -- in another one the bytes decide
  pub line_looked : line l ≡ true → lowest byte at n ≡ lowest (by_line line byte) at n
  line_looked e = lowest_same byte (by_line line byte) n at (λ k a b. let on : line_of k ≡ l = omega arith in rw (on, e))

-- a whole line, searched from its start on
pub line_searched : (line byte : ℕ → Bool) (l : ℕ) → line l ≡ true → l < 64 → {at : ℕ} {s : Answer ℕ} → at ≡ line_start l →
    s ≡ searched (lowest byte at 64) → s ≡ searched (lowest (by_line line byte) (l * 64) 64)
line_searched line byte l e low {at} start found =
    let at_line : at ≡ l * 64 = start ∙ rw (lt-ltb l 64 low) in
    rw at_line at found ∙ ap searched (line_looked line byte l (l * 64) 64 (omega arith) (omega arith) e)
