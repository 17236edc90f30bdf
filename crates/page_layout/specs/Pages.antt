-- The pages of a findings area.
use Rattle.std.specs.Prelude.{List, [], ◌∷◌, ◌++◌, ℕ, zero, suc, ◌+◌, ◌/◌, max, length, take, drop}
use Rattle.codec.specs.Codec.{finding_size}
use Rattle.finding_lines.specs.declared.Row.{Row}
use Rattle.finding_lines.specs.Rows.{rows_from}
use Rattle.page_lines.specs.Lines.{heading, row_line, foot}

-- the findings on a page; fewer only on the last page
abbrev pub per_page : ℕ
per_page = 58

-- findings, a line each
unfoldable pub row_lines : List Row → List ℕ
row_lines [] = []
row_lines (row ∷ rest) = row_line row ++ row_lines rest

-- a page: heading, findings, foot
unfoldable pub page : (number pages : ℕ) → List Row → List ℕ
page number pages rows = heading ++ row_lines rows ++ foot number pages

-- so many pages from a number on, each with the next findings
unfoldable pub pages_from : (count number pages : ℕ) → List Row → List ℕ
pages_from zero number pages rows = []
pages_from (suc count) number pages rows = page number pages (take per_page rows) ++ pages_from count (suc number) pages (drop per_page rows)

-- the pages of so many findings; with none there is one page
abbrev pub page_count : ℕ → ℕ
page_count shown = max 1 ((shown + 57) / per_page)

-- how many findings an area has, and those that are shown, in event order
abbrev pub findings_in : List ℕ → ℕ
findings_in findings = length findings / finding_size

abbrev pub shown_in : List ℕ → List Row
shown_in findings = rows_from 0 (findings_in findings) findings

abbrev pub pages_with : List Row → List ℕ
pages_with rows = let pages = page_count (length rows) in pages_from pages 1 pages rows

unfoldable pub pages_of : List ℕ → List ℕ
pages_of findings = pages_with (shown_in findings)
