-- The finding lines, one after another.
use mathlib.Core.Path.{◌≡◌, sym}
use mathlib.Core.List.{List, ◌++◌, append_assoc, append-nil}
use Prim.Native.Nat.{ℕ, zero, suc, ◌+◌}
use native.Mathlib.Numerals.{add-one}
use native.Mathlib.Omega.{arith}
use Rattle.finding_lines.specs.Area.{line_at, lines_from}

-- one line more
line_behind : (before n : ℕ) (area : List ℕ) → lines_from before (suc n) area ≡ lines_from before n area ++ line_at (before + n) area
unfolding lines_from
line_behind before zero area = let here : before + 0 ≡ before = omega arith in rw here (append-nil (line_at before area))
line_behind before (suc n) area =
    let next : before + suc n ≡ suc before + n = omega arith in
    rw (next, line_behind (suc before) n area) (sym (append_assoc (line_at before area) (lines_from (suc before) n area) (line_at (suc before + n) area)))

pub lines_more : (n : ℕ) (area : List ℕ) → lines_from 0 (n + 1) area ≡ lines_from 0 n area ++ line_at n area
lines_more n area = let here : 0 + n ≡ n = omega arith in rw (add-one n) (rw here at (line_behind 0 n area))
