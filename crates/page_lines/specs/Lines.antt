-- The lines of a page. Each has 61 columns and a line feed (proofs/Columns.antt).
use Rattle.std.specs.Prelude.{List, ◌++◌, ℕ}
use Rattle.finding_lines.specs.declared.Row.{Row}
use Rattle.finding_lines.specs.Lines.{name_of}
use Rattle.text.specs.Text.{ascii, decimal}
use Rattle.text.specs.Field.{right, padded}

-- lost, kept, moment, store right in 7 each
unfoldable pub values : (lost kept moment store : List ℕ) → List ℕ
values lost kept moment store = right 7 lost ++ right 7 kept ++ right 7 moment ++ right 7 store

-- event right in 6, site right in 11, a field of 16 that is two blanks and then the name padded on the right, then the values
unfoldable pub columns : (event site name lost kept moment store : List ℕ) → List ℕ
columns event site name lost kept moment store =
    right 6 event ++ right 11 site ++ padded 16 (ascii "  " ++ name) ++ values lost kept moment store ++ ascii "\n"

-- the column names, placed as their columns are
unfoldable pub heading : List ℕ
heading = columns (ascii "event") (ascii "site") (ascii "finding") (ascii "lost") (ascii "kept") (ascii "moment") (ascii "store")

-- a finding
unfoldable pub row_line : Row → List ℕ
row_line row =
    let f = row.fields in
    columns (decimal row.event) (decimal row.site) (name_of f.kind)
    (decimal f.lost) (decimal f.kept) (decimal f.moment) (decimal f.store)

-- page P of Q, padded on the right
unfoldable pub foot : (page pages : ℕ) → List ℕ
foot page pages = padded 61 (ascii "page " ++ decimal page ++ ascii " of " ++ decimal pages) ++ ascii "\n"
