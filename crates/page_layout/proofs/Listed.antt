-- The lines of the findings on the pages, with their blanks squeezed, are the lines of the listing.
use mathlib.Core.Path.{◌≡◌, refl, sym, ap₂, ◌∙◌}
use mathlib.Core.Bool.{Bool, true, false, cond}
use mathlib.Core.List.{List, ◌∷◌, map}
use Prim.Native.Nat.{ℕ, zero, suc, ◌+◌, ◌≤◌, ◌<◌}
use native.Mathlib.Omega.{arith}
use lib.ListN.{get_or}
use Rattle.text.specs.Cut.{squeezed}
use Rattle.finding_lines.specs.declared.Row.{Row}
use Rattle.finding_lines.specs.Lines.{is_printed}
use Rattle.finding_lines.specs.Rows.{row_at, rows_from}
use Rattle.finding_lines.specs.Area.{line_of}
use Rattle.finding_lines.proofs.Listed.{line_shown}
use Rattle.page_lines.specs.Lines.{row_line}
use Rattle.page_lines.proofs.Squeezed.{row_squeezed}
use Rattle.page_layout.proofs.Size.{row_held}

pub rows_squeezed : (findings : List ℕ) → ((i : ℕ) → get_or findings i 0 < 256) → (before count : ℕ) → before + count ≤ 65535 →
    map squeezed (map row_line (rows_from before count findings)) ≡ map line_of (rows_from before count findings)
unfolding rows_from
rows_squeezed findings bytes before zero few = refl
rows_squeezed findings bytes before (suc count) few = go (is_printed row.fields.kind) refl (rows_squeezed findings bytes (suc before) count (omega arith))
  where
    row : Row
    row = row_at before findings

    rows : List Row
    rows = rows_from (suc before) count findings

    go : (b : Bool) → is_printed row.fields.kind ≡ b → map squeezed (map row_line rows) ≡ map line_of rows →
        map squeezed (map row_line (cond b (row ∷ rows) rows)) ≡ map line_of (cond b (row ∷ rows) rows)
    go false e k = k
    go true e k =
        ap₂ (λ (l : List ℕ) (more : List (List ℕ)). l ∷ more)
        (row_squeezed row (row_held findings bytes before (omega arith)) e ∙ sym (line_shown row e)) k
