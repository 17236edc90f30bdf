-- Printed pages, as a reader takes their lines apart.
use Rattle.std.specs.Prelude.{List, [], ◌++◌, ℕ, zero, suc, ◌-◌, ◌*◌, length, take, drop}

-- a page has a heading, 58 findings and a foot; the last page may have fewer
abbrev pub lines_per_page : ℕ
lines_per_page = 60

-- the lines of the page that has so many before it
abbrev pub page_at : ℕ → List (List ℕ) → List (List ℕ)
page_at before lines = take lines_per_page (drop (lines_per_page * before) lines)

-- all but the first line and the last
abbrev pub inner : List (List ℕ) → List (List ℕ)
inner lines = take (length lines - 2) (drop 1 lines)

-- the lines between heading and foot on so many pages
unfoldable pub rows_printed : ℕ → List (List ℕ) → List (List ℕ)
rows_printed zero lines = []
rows_printed (suc pages) lines = inner (take lines_per_page lines) ++ rows_printed pages (drop lines_per_page lines)
