-- The pages, cut into lines: every page has its heading, its findings and its foot, and the findings are all there, in order.
use mathlib.Core.Path.{◌≡◌, refl, sym, ap, ap₂, ◌∙◌}
use mathlib.Core.List.{List, [], ◌∷◌, ◌++◌, map, append_assoc, append-nil}
use Prim.Native.Nat.{ℕ, zero, suc, ◌+◌, ◌-◌, ◌*◌, ◌≤◌, ◌<◌}
use native.Mathlib.Omega.{arith}
use lib.ListN.{length, take, drop, length-append, length-map, length-take, length-drop, take-append-drop, drop_of_length-le}
use lib.Seq.{take_all, take_at, drop_at, drop-drop}
use Rattle.text.specs.Cut.{cut}
use Rattle.text.proofs.Cut.{cut_line}
use Rattle.finding_lines.specs.declared.Row.{Row}
use Rattle.page_lines.specs.Lines.{heading, row_line, foot}
use Rattle.page_lines.specs.Line.{Line}
use Rattle.page_lines.proofs.Columns.{row_line_lem, heading_line, foot_line_lem}
use Rattle.page_layout.specs.Pages.{per_page, row_lines, page, pages_from}
use Rattle.page_layout.specs.Printed.{lines_per_page, page_at, inner, rows_printed}
use Rattle.page_layout.proofs.Size.{AllHeld, held_take, held_drop}

-- a line, and what comes behind it
cut_one : {s : List ℕ} → Line s → (rest : List ℕ) → cut (s ++ rest) ≡ s ∷ cut rest
cut_one l rest = rw l.whole (cut_line l.body rest l.unbroken)

-- the lines of a page, and of so many pages
abbrev pub page_lines : (number pages : ℕ) → List Row → List (List ℕ)
page_lines number pages rows = heading ∷ map row_line rows ++ foot number pages ∷ []

unfoldable pub all_lines : (count number pages : ℕ) → List Row → List (List ℕ)
all_lines zero number pages rows = []
all_lines (suc count) number pages rows = page_lines number pages (take per_page rows) ++ all_lines count (suc number) pages (drop per_page rows)

cut_rows : {rows : List Row} → AllHeld rows → (rest : List ℕ) → cut (row_lines rows ++ rest) ≡ map row_line rows ++ cut rest
unfolding row_lines
cut_rows AllHeld.none rest = refl
cut_rows (AllHeld.more {row} {rest = others} one held) rest =
    ap cut (append_assoc (row_line row) (row_lines others) rest) ∙ cut_one (row_line_lem row one) (row_lines others ++ rest) ∙
    ap (λ (l : List (List ℕ)). row_line row ∷ l) (cut_rows held rest)

cut_page : (number pages : ℕ) {rows : List Row} → AllHeld rows → (rest : List ℕ) →
    cut (page number pages rows ++ rest) ≡ page_lines number pages rows ++ cut rest
unfolding page
cut_page number pages {rows} held rest =
    let end = foot number pages in
    let lines = row_lines rows in
    ap cut (append_assoc (heading ++ lines) end rest ∙ append_assoc heading lines (end ++ rest)) ∙ cut_one heading_line (lines ++ (end ++ rest)) ∙
    ap (λ (l : List (List ℕ)). heading ∷ l)
    (cut_rows held (end ++ rest) ∙ ap (λ (l : List (List ℕ)). map row_line rows ++ l) (cut_one (foot_line_lem number pages) rest) ∙
    sym (append_assoc (map row_line rows) (end ∷ []) (cut rest)))

pub cut_pages : (count number pages : ℕ) {rows : List Row} → AllHeld rows → cut (pages_from count number pages rows) ≡ all_lines count number pages rows
unfolding cut pages_from all_lines
cut_pages zero number pages held = refl
cut_pages (suc count) number pages {rows} held =
    cut_page number pages (held_take per_page held) (pages_from count (suc number) pages (drop per_page rows)) ∙
    ap (λ (l : List (List ℕ)). page_lines number pages (take per_page rows) ++ l) (cut_pages count (suc number) pages (held_drop per_page held))

-- the page's lines
page_lines_lem : (number pages : ℕ) (rows : List Row) → length (page_lines number pages rows) ≡ 2 + length rows
page_lines_lem number pages rows =
    omega (arith, length-append (map row_line rows) (foot number pages ∷ []), length-map rows row_line)

-- between a first line and a last
pub inner_between : (first last : List ℕ) (lines : List (List ℕ)) → inner (first ∷ lines ++ last ∷ []) ≡ lines
inner_between first last lines =
    let left : length lines ≡ length (first ∷ lines ++ last ∷ []) - 2 = omega (arith, length-append lines (last ∷ [])) in
    take_at lines (last ∷ []) (length (first ∷ lines ++ last ∷ []) - 2) left

-- where every page but the last is full, the first 60 lines are the first page, and the others are the pages after it
split : (count number pages : ℕ) (rows : List Row) → per_page * count ≤ length rows →
    let first = page_lines number pages (take per_page rows) in
    let later = all_lines count (suc number) pages (drop per_page rows) in
    (take lines_per_page (first ++ later) ≡ first) × (drop lines_per_page (first ++ later) ≡ later)
unfolding all_lines
split zero number pages rows full =
    let first = page_lines number pages (take per_page rows) in
    let short : length first ≤ lines_per_page = omega (arith, page_lines_lem number pages (take per_page rows), length-take per_page rows) in (
      ap (take lines_per_page) (append-nil first) ∙ take_all lines_per_page first short,
      ap (drop lines_per_page) (append-nil first) ∙ drop_of_length-le first {i = lines_per_page} short,
    )
split (suc count) number pages rows full =
    let first = page_lines number pages (take per_page rows) in
    let later = all_lines (suc count) (suc number) pages (drop per_page rows) in
    let sixty : length first ≡ lines_per_page = omega (arith, page_lines_lem number pages (take per_page rows), length-take per_page rows) in
    (take_at first later lines_per_page sixty, drop_at first later lines_per_page sixty)

-- so each page is found at its place
pub page_at_lem : (before count number pages : ℕ) (rows : List Row) → before < count → per_page * (count - 1) ≤ length rows →
    page_at before (all_lines count number pages rows) ≡ page_lines (number + before) pages (take per_page (drop (per_page * before) rows))
unfolding all_lines
page_at_lem before zero number pages rows k full = absurd (omega arith)
page_at_lem zero (suc count) number pages rows k full =
    let here : number + 0 ≡ number = omega arith in
    (split count number pages rows (omega arith)).0 ∙ ap (λ (n : ℕ). page_lines n pages (take per_page rows)) (sym here)
page_at_lem (suc before) (suc count) number pages rows k full =
    let first = page_lines number pages (take per_page rows) in
    let later = all_lines count (suc number) pages (drop per_page rows) in
    let lines : lines_per_page * suc before ≡ lines_per_page + lines_per_page * before = omega arith in
    let findings : per_page * suc before ≡ per_page + per_page * before = omega arith in
    let next : number + suc before ≡ suc number + before = omega arith in
    let past : drop (lines_per_page * suc before) (first ++ later) ≡ drop (lines_per_page * before) later =
    ap (λ (n : ℕ). drop n (first ++ later)) lines ∙ sym (drop-drop (lines_per_page * before) lines_per_page (first ++ later)) ∙
    ap (drop (lines_per_page * before)) (split count number pages rows (omega arith)).1 in
    let left : per_page * (count - 1) ≤ length (drop per_page rows) = omega (arith, length-drop per_page rows) in
    ap (take lines_per_page) past ∙ page_at_lem before count (suc number) pages (drop per_page rows) (omega arith) left ∙
    ap₂ (λ (n : ℕ) (left : List Row). page_lines n pages (take per_page left)) (sym next)
    (drop-drop (per_page * before) per_page rows ∙ ap (λ (n : ℕ). drop n rows) (sym findings))

-- and the lines between heading and foot are those of all findings
map_parts : (rows others : List Row) → map row_line rows ++ map row_line others ≡ map row_line (rows ++ others)
map_parts [] others = refl
map_parts (row ∷ rows) others = ap (λ (l : List (List ℕ)). row_line row ∷ l) (map_parts rows others)

pub rows_printed_lem : (count number pages : ℕ) (rows : List Row) → length rows ≤ per_page * count → per_page * (count - 1) ≤ length rows →
    rows_printed count (all_lines count number pages rows) ≡ map row_line rows
unfolding all_lines rows_printed
rows_printed_lem zero number pages [] few full = refl
rows_printed_lem zero number pages (row ∷ rows) few full = absurd (omega arith)
rows_printed_lem (suc count) number pages rows few full =
    let parts = split count number pages rows (omega arith) in
    let left : length (drop per_page rows) ≤ per_page * count = omega (arith, length-drop per_page rows) in
    let most : per_page * (count - 1) ≤ length (drop per_page rows) = omega (arith, length-drop per_page rows) in
    ap₂ (λ (a b : List (List ℕ)). a ++ b) (ap inner parts.0 ∙ inner_between heading (foot number pages) (map row_line (take per_page rows)))
    (ap (rows_printed count) parts.1 ∙ rows_printed_lem count (suc number) pages (drop per_page rows) left most) ∙
    map_parts (take per_page rows) (drop per_page rows) ∙ ap (map row_line) (take-append-drop per_page rows)
