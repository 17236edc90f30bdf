-- What the check of a line count says of it, and what the limit 4 does.
use Rattle.std.specs.Prelude.{Err}
use mathlib.Core.Path.{◌≡◌, refl}
use mathlib.Core.Bool.{Bool, true, false, cond, not}
use Prim.Native.Nat.{ℕ, ◌≤◌}
use native.Mathlib.Omega.{arith}
use lib.Dec.{ltb, eqb}
use borrow.Author.Tests.{eqb-true, ltb-false}
use Rattle.event.specs.declared.Refusal.{Refusal}
use Rattle.event.specs.Answers.{passed}
use Rattle.event.specs.declared.Refusal.TheVariants.{BadLines}
use Rattle.window.specs.Window.{most_lines, bad_lines, lines_check}
use Rattle.event.proofs.Bools.{contradiction, fails, fails_not, or_left, or_right, not_of}
use Rattle.trailer.specs.declared.Trailer.{Trailer}
use Rattle.trailer.specs.Trailer.{bad_window}

pub lines_refused : (lines : ℕ) {x : Refusal} → lines_check lines ≡ Err x → bad_lines lines ≡ true
lines_refused lines {x} e = go (bad_lines lines) e
  where
    go : (t : Bool) → cond t (Err BadLines) passed ≡ Err x → t ≡ true
    go true k = refl
    go false k = let z : ◌≡◌ {A = ℕ} 0 1 = cc in absurd (omega arith)

pub lines_passed : (lines : ℕ) → lines_check lines ≡ passed → bad_lines lines ≡ false
lines_passed lines e = go (bad_lines lines) e
  where
    go : (t : Bool) → cond t (Err BadLines) passed ≡ passed → t ≡ false
    go true k = let z : ◌≡◌ {A = ℕ} 0 1 = cc in absurd (omega arith)
    go false k = refl

-- a trailer that the limit 4 does not refuse has 0 in its zero field
pub window_zero : (t : Trailer) → bad_window t ≡ false → t.zero ≡ 0
window_zero t e = eqb-true t.zero 0 (fails_not (eqb t.zero 0) (λ k. contradiction (or_right (bad_lines t.lines) (not_of k)) e))

-- a window that the limit 4 does not refuse has at most 64 lines
pub window_lines : (t : Trailer) → bad_window t ≡ false → bad_lines t.lines ≡ false
window_lines t e = fails (bad_lines t.lines) (λ k. contradiction (or_left (not (eqb t.zero 0)) k) e)

pub few_lines : (lines : ℕ) → bad_lines lines ≡ false → lines ≤ most_lines
few_lines lines e = ltb-false 64 lines (fails (ltb 64 lines) (λ k. contradiction (or_right (eqb lines 0) k) e))
