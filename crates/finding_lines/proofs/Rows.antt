-- The findings of an area that are shown, one after another.
use mathlib.Core.Path.{◌≡◌, ◌∙◌}
use mathlib.Core.Bool.{Bool, true, false, cond}
use mathlib.Core.List.{List, [], ◌∷◌}
use Prim.Native.Nat.{ℕ, zero, suc, ◌+◌, ◌-◌, ◌≤◌, ◌<◌}
use native.Mathlib.Omega.{arith}
use lib.ListN.{length}
use Rattle.finding_lines.specs.declared.Row.{Row}
use Rattle.finding_lines.specs.Lines.{is_printed}
use Rattle.finding_lines.specs.Rows.{row_at, if_shown, rows_from}

-- a finding in front of others, where it is shown and where not
shown_first : (row : Row) (rest : List Row) → true ≡ is_printed row.fields.kind → if_shown row rest ≡ row ∷ rest
shown_first row rest e = rw (← e)

hidden_first : (row : Row) (rest : List Row) → false ≡ is_printed row.fields.kind → if_shown row rest ≡ rest
hidden_first row rest e = rw (← e)

-- from one finding on: it, if it is shown, and then those after it
module _ (area : List ℕ) (i count : ℕ) where
  pub rows_next : {row : Row} → row ≡ row_at i area → i < count → rows_from i (count - i) area ≡ if_shown row (rows_from (i + 1) (count - (i + 1)) area)
  unfolding rows_from
  rows_next read k =
      let left : count - i ≡ suc (count - (i + 1)) = omega arith in
      let next : i + 1 ≡ suc i = omega arith in
      rw (left, next, read)

  pub next_shown : {row : Row} → row ≡ row_at i area → i < count → true ≡ is_printed row.fields.kind →
      rows_from i (count - i) area ≡ row ∷ rows_from (i + 1) (count - (i + 1)) area
  next_shown {row} read k e = rows_next read k ∙ shown_first row (rows_from (i + 1) (count - (i + 1)) area) e

  pub next_hidden : {row : Row} → row ≡ row_at i area → i < count → false ≡ is_printed row.fields.kind →
      rows_from i (count - i) area ≡ rows_from (i + 1) (count - (i + 1)) area
  next_hidden {row} read k e = rows_next read k ∙ hidden_first row (rows_from (i + 1) (count - (i + 1)) area) e

  pub rows_done : count ≤ i → rows_from i (count - i) area ≡ []
  unfolding rows_from
  rows_done k = let none : count - i ≡ 0 = omega arith in rw none

-- no more are shown than there are
pub rows_few : (before count : ℕ) (area : List ℕ) → length (rows_from before count area) ≤ count
unfolding rows_from
rows_few before zero area = omega arith
rows_few before (suc count) area = go (is_printed (row_at before area).fields.kind) (rows_few (suc before) count area)
  where
    go : (b : Bool) → length (rows_from (suc before) count area) ≤ count →
        length (cond b (row_at before area ∷ rows_from (suc before) count area) (rows_from (suc before) count area)) ≤ suc count
    go true k = omega arith
    go false k = omega arith
