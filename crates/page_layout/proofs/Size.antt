-- How long the pages are: 62 bytes for each line, and on each page a heading and a foot beside the findings.
use mathlib.Core.Path.{◌≡◌, refl, sym, ap, ◌∙◌}
use mathlib.Core.Bool.{Bool, true, false, cond}
use mathlib.Core.List.{List, [], ◌∷◌, ◌++◌}
use Prim.Native.Nat.{ℕ, zero, suc, ◌+◌, ◌*◌, ◌≤◌, ◌<◌}
use native.Mathlib.Omega.{arith}
use lib.ListN.{length, take, drop, get_or, length-append, length-drop, take-append-drop}
use Rattle.codec.specs.Codec.{finding_size}
use Rattle.finding_lines.specs.declared.Row.{Row}
use Rattle.finding_lines.specs.Lines.{is_printed}
use Rattle.finding_lines.specs.Rows.{row_at, rows_from}
use Rattle.page_lines.specs.Lines.{heading, row_line, foot}
use Rattle.page_lines.specs.Line.{Held}
use Rattle.page_lines.proofs.Columns.{line_length, row_line_lem, heading_line, foot_line_lem}
use Rattle.page_layout.specs.Pages.{per_page, row_lines, page, pages_from, page_count, findings_in, shown_in, pages_of}

-- findings that 16 bits can hold
pub data AllHeld : List Row → Type 0 where
  none : AllHeld []
  more : {row : Row} {rest : List Row} → Held row → AllHeld rest → AllHeld (row ∷ rest)

pub held_take : (n : ℕ) {rows : List Row} → AllHeld rows → AllHeld (take n rows)
held_take zero h = AllHeld.none
held_take (suc n) AllHeld.none = AllHeld.none
held_take (suc n) (AllHeld.more one rest) = AllHeld.more one (held_take n rest)

pub held_drop : (n : ℕ) {rows : List Row} → AllHeld rows → AllHeld (drop n rows)
held_drop zero h = h
held_drop (suc n) AllHeld.none = AllHeld.none
held_drop (suc n) (AllHeld.more one rest) = held_drop n rest

-- those of an area of bytes that has at most 65,535
module _ (findings : List ℕ) (bytes : (i : ℕ) → get_or findings i 0 < 256) where
  pub row_held : (before : ℕ) → before < 65535 → Held (row_at before findings)
  row_held before few =
      let at = finding_size * before in
      record {
        event = omega arith;
        site = omega (arith, bytes (at + 10), bytes (at + 10 + 1));
        lost = omega (arith, bytes (at + 2), bytes (at + 2 + 1));
        kept = omega (arith, bytes (at + 4), bytes (at + 4 + 1));
        moment = omega (arith, bytes (at + 6), bytes (at + 6 + 1));
        store = omega (arith, bytes (at + 8), bytes (at + 8 + 1));
      }

  pub rows_held : (before count : ℕ) → before + count ≤ 65535 → AllHeld (rows_from before count findings)
  unfolding rows_from
  rows_held before zero few = AllHeld.none
  rows_held before (suc count) few = go (is_printed row.fields.kind) (rows_held (suc before) count (omega arith))
    where
      row : Row
      row = row_at before findings

      go : (b : Bool) → AllHeld (rows_from (suc before) count findings) →
          AllHeld (cond b (row ∷ rows_from (suc before) count findings) (rows_from (suc before) count findings))
      go true rest = AllHeld.more (row_held before (omega arith)) rest
      go false rest = rest

-- lines of findings, a page, and so many pages
rows_size : {rows : List Row} → AllHeld rows → length (row_lines rows) ≡ 62 * length rows
unfolding row_lines
rows_size AllHeld.none = refl
rows_size (AllHeld.more {row} {rest} one others) =
    omega (arith, length-append (row_line row) (row_lines rest), line_length (row_line_lem row one), rows_size others)

page_size : (number pages : ℕ) {rows : List Row} → AllHeld rows → length (page number pages rows) ≡ 62 * (2 + length rows)
unfolding page
page_size number pages {rows} held =
    omega (
      arith,
      length-append (heading ++ row_lines rows) (foot number pages),
      length-append heading (row_lines rows),
      line_length heading_line,
      rows_size held,
      line_length (foot_line_lem number pages),
    )

pages_size : (count number pages : ℕ) {rows : List Row} → AllHeld rows → length rows ≤ per_page * count →
    length (pages_from count number pages rows) ≡ 62 * (2 * count + length rows)
unfolding pages_from
pages_size zero number pages {rows} held few = omega arith
pages_size (suc count) number pages {rows} held few =
    let now = take per_page rows in
    let later = drop per_page rows in
    let both : length now + length later ≡ length rows = sym (length-append now later) ∙ ap length (take-append-drop per_page rows) in
    let left : length later ≤ per_page * count = omega (arith, length-drop per_page rows) in
    omega (
      arith,
      both,
      length-append (page number pages now) (pages_from count (suc number) pages later),
      page_size number pages (held_take per_page held),
      pages_size count (suc number) pages (held_drop per_page held) left,
    )

-- there are pages enough
pub enough_pages : (shown : ℕ) → shown ≤ per_page * page_count shown
enough_pages shown = omega arith

-- so the length is 62 for each finding that is shown, and twice 62 for each page
pub pages_length : (findings : List ℕ) → ((i : ℕ) → get_or findings i 0 < 256) → findings_in findings ≤ 65535 →
    length (pages_of findings) ≡ 62 * (2 * page_count (length (shown_in findings)) + length (shown_in findings))
unfolding pages_of
pages_length findings bytes few =
    let shown = length (shown_in findings) in
    pages_size (page_count shown) 1 (page_count shown) (rows_held findings bytes 0 (findings_in findings) (omega arith)) (enough_pages shown)
