-- The lines of findings, and the pages, one after another.
use mathlib.Core.Path.{◌≡◌, sym, ap, ◌∙◌}
use mathlib.Core.Bool.{Bool, true, false, cond}
use mathlib.Core.List.{List, [], ◌∷◌, ◌++◌, append_assoc, append-nil}
use Prim.Native.Nat.{ℕ, zero, suc, ◌+◌, ◌-◌, ◌≤◌, ◌<◌}
use native.Mathlib.Numerals.{add-one}
use native.Mathlib.Omega.{arith}
use lib.ListN.{length, take, drop, length-drop, drop_of_length-le}
use lib.Seq.{take_all}
use Rattle.text.specs.Cursor.{Puts}
use Rattle.text.specs.declared.Cursor.{Cursor}
use Rattle.text.proofs.Puts.{◌then◌}
use Rattle.finding_lines.specs.declared.Row.{Row}
use Rattle.finding_lines.specs.Lines.{is_printed}
use Rattle.finding_lines.specs.Rows.{row_at, if_shown, rows_from}
use Rattle.finding_lines.proofs.Rows.{rows_next}
use Rattle.page_lines.specs.Lines.{row_line}
use Rattle.page_layout.specs.Pages.{per_page, row_lines, page, pages_from}
use Rattle.page_layout.specs.Rows.{shown}

-- one line more, of the first finding behind so many, and those behind it
line_behind : (n : ℕ) (rows : List Row) {row : Row} {rest : List Row} → drop n rows ≡ row ∷ rest →
    (row_lines (take (suc n) rows) ≡ row_lines (take n rows) ++ row_line row) × (drop (suc n) rows ≡ rest)
unfolding row_lines
line_behind zero [] e = absurd (cc)
line_behind zero (x ∷ rows) {row} {rest} e = let same : x ≡ row = cc in (rw same (append-nil (row_line row)), cc)
line_behind (suc n) [] e = absurd (cc)
line_behind (suc n) (x ∷ rows) {row} e =
    let w = line_behind n rows e in
    (ap (λ (s : List ℕ). row_line x ++ s) w.0 ∙ sym (append_assoc (row_line x) (row_lines (take n rows)) (row_line row)), w.1)

module _ (n : ℕ) (rows : List Row) where
  pub lines_more : {row : Row} {rest : List Row} → drop n rows ≡ row ∷ rest → row_lines (take (n + 1) rows) ≡ row_lines (take n rows) ++ row_line row
  lines_more e = rw (add-one n) (line_behind n rows e).0

  pub drop_more : {row : Row} {rest : List Row} → drop n rows ≡ row ∷ rest → drop (n + 1) rows ≡ rest
  drop_more e = rw (add-one n) (line_behind n rows e).1

  -- where none is left, those before are all
  none_left : drop n rows ≡ [] → length rows ≤ n
  none_left e = omega (arith, length-drop n rows, ap length e)

  pub all_taken : (m : ℕ) → drop n rows ≡ [] → n ≤ m → take n rows ≡ take m rows
  all_taken m e k = let few = none_left e in take_all n rows few ∙ sym (take_all m rows (omega arith))

  pub all_dropped : (m : ℕ) → drop n rows ≡ [] → n ≤ m → drop m rows ≡ []
  all_dropped m e k = let few = none_left e in drop_of_length-le rows {i = m} (omega arith)

-- a page, and those after it with the findings that are left
module _ (i pages : ℕ) (rows : List Row) {o p : Cursor} where
  pub page_turn : {q : Cursor} → i < pages → Puts (page (i + 1) pages (take per_page rows)) o p →
      Puts (pages_from (pages - (i + 1)) (i + 1 + 1) pages (drop per_page rows)) p q → Puts (pages_from (pages - i) (i + 1) pages rows) o q
  unfolding pages_from
  page_turn k e f =
      let more : pages - i ≡ suc (pages - (i + 1)) = omega arith in
      let next : i + 1 + 1 ≡ suc (i + 1) = omega arith in
      rw more (e then (rw next at f))

  pub pages_done : pages ≤ i → Puts [] o p → Puts (pages_from (pages - i) (i + 1) pages rows) o p
  unfolding pages_from
  pages_done k e = let none : pages - i ≡ 0 = omega arith in rw none e

-- a finding is counted
shown_length : (row : Row) (rest : List Row) → length (if_shown row rest) ≡ shown row.fields.kind + length rest
shown_length row rest = go (is_printed row.fields.kind)
  where
    go : (b : Bool) → length (cond b (row ∷ rest) rest) ≡ cond b 1 0 + length rest
    go true = omega arith
    go false = omega arith

-- at most one is counted
shown_once : (kind : ℕ) → shown kind ≤ 1
shown_once kind = go (is_printed kind)
  where
    go : (b : Bool) → cond b 1 0 ≤ 1
    go true = omega arith
    go false = omega arith

-- one turn of a loop over the findings: the finding read, and 1 or 0 for it
module _ (findings : List ℕ) (i count : ℕ) {row : Row} {one : ℕ} (inside : i < count) (read : row ≡ row_at i findings) (counted : one ≡ shown row.fields.kind) where
  pub count_next : (total : ℕ) → total + one + length (rows_from (i + 1) (count - (i + 1)) findings) ≡ total + length (rows_from i (count - i) findings)
  count_next total =
      rw (rows_next findings i count read inside, counted) (omega (arith, shown_length row (rows_from (i + 1) (count - (i + 1)) findings)))

  pub at_most_one : one ≤ 1
  at_most_one = rw counted (shown_once row.fields.kind)
