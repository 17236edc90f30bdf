-- The finding lines of an area, cut: one line for each finding that is shown.
use mathlib.Core.Path.{◌≡◌, refl, sym, ap, ap₂, ◌∙◌}
use mathlib.Core.Bool.{Bool, true, false, cond}
use mathlib.Core.List.{List, [], ◌∷◌, ◌++◌, map, append_assoc}
use Prim.Native.Nat.{ℕ, zero, suc}
use native.Mathlib.Omega.{arith}
use Rattle.event.specs.declared.Fields.{Fields}
use Rattle.text.specs.Text.{ascii, decimal}
use Rattle.text.specs.Occurs.{occurs}
use Rattle.text.specs.Cut.{cut}
use Rattle.text.proofs.Occurs.{both_lack, decimal_lacks}
use Rattle.text.proofs.Cut.{cut_line}
use Rattle.finding_lines.specs.declared.Row.{Row}
use Rattle.finding_lines.specs.Lines.{name_of, is_printed, field, values, columns, finding_line}
use Rattle.finding_lines.specs.Rows.{row_at, rows_from}
use Rattle.finding_lines.specs.Area.{line_of, lines_from}
use Rattle.finding_lines.proofs.Names.{no_feed}

-- no line feed in a number, in the values, and in the columns but at their end
field_plain : (n : ℕ) → occurs 10 (field n) ≡ 0
unfolding field
field_plain n = both_lack 10 (ascii " ") (decimal n) refl (decimal_lacks 10 n (omega arith))

values_plain : (f : Fields) → occurs 10 (values f) ≡ 0
unfolding values
values_plain f =
    both_lack 10 (field f.lost ++ field f.kept ++ field f.moment) (field f.store)
    (both_lack 10 (field f.lost ++ field f.kept) (field f.moment)
    (both_lack 10 (field f.lost) (field f.kept) (field_plain f.lost) (field_plain f.kept)) (field_plain f.moment))
    (field_plain f.store)

columns_cut : (event site : ℕ) (f : Fields) (rest : List ℕ) → cut (columns event site f ++ rest) ≡ columns event site f ∷ cut rest
unfolding columns
columns_cut event site f rest =
    let name = name_of f.kind in
    let front = decimal event ++ field site ++ ascii " " in
    cut_line (front ++ name ++ values f) rest
    (both_lack 10 (front ++ name) (values f)
    (both_lack 10 front name
    (both_lack 10 (decimal event ++ field site) (ascii " ") (both_lack 10 (decimal event) (field site) (decimal_lacks 10 event (omega arith)) (field_plain site)) refl)
    (no_feed f.kind))
    (values_plain f))

-- the line of a finding that is shown
pub line_shown : (row : Row) → is_printed row.fields.kind ≡ true → line_of row ≡ columns row.event row.site row.fields
unfolding finding_line
line_shown row e = rw e

pub lines_cut : (before count : ℕ) (area rest : List ℕ) → cut (lines_from before count area ++ rest) ≡ map line_of (rows_from before count area) ++ cut rest
unfolding finding_line rows_from lines_from
lines_cut before zero area rest = refl
lines_cut before (suc count) area rest = go (is_printed row.fields.kind) refl (lines_cut (suc before) count area rest)
  where
    row : Row
    row = row_at before area

    others : List ℕ
    others = lines_from (suc before) count area

    rows : List Row
    rows = rows_from (suc before) count area

    go : (b : Bool) → is_printed row.fields.kind ≡ b → cut (others ++ rest) ≡ map line_of rows ++ cut rest →
        cut (cond b (columns row.event row.site row.fields) [] ++ others ++ rest) ≡ map line_of (cond b (row ∷ rows) rows) ++ cut rest
    go false e k = k
    go true e k =
        let line = columns row.event row.site row.fields in
        ap cut (append_assoc line others rest) ∙ columns_cut row.event row.site row.fields (others ++ rest) ∙
        ap₂ (λ (l : List ℕ) (more : List (List ℕ)). l ∷ more) (sym (line_shown row e)) k
