-- Request 3 holds: what is on the pages, and that they show the listing's rows.
use mathlib.Core.Path.{◌≡◌, sym, ap, ◌∙◌, subst}
use mathlib.Core.Logic.{◌≢◌}
use mathlib.Core.Bool.{true}
use mathlib.Core.List.{List, [], ◌∷◌, ◌++◌, map}
use Prim.Native.Nat.{ℕ, zero, suc, ◌+◌, ◌-◌, ◌*◌, ◌≤◌, ◌<◌}
use native.Mathlib.Omega.{arith}
use lib.ListN.{length, take, drop, get_or, length-take, length-drop}
use borrow.Author.Tests.{le-leb}
use Rattle.event.proofs.Bools.{both}
use Rattle.text.specs.Cut.{squeezed}
use Rattle.finding_lines.specs.declared.Row.{Row}
use Rattle.finding_lines.specs.Lines.{is_printed}
use Rattle.page_lines.specs.Lines.{heading, row_line, foot}
use Rattle.page_lines.specs.Line.{Line}
use Rattle.page_lines.proofs.Columns.{row_line_lem, heading_line, foot_line_lem}
use Rattle.page_layout.specs.Pages.{per_page, page_count, findings_in, shown_in, pages_of}
use Rattle.page_layout.specs.Printed.{page_at, rows_printed}
use Rattle.page_layout.proofs.Size.{AllHeld, rows_held, held_take, held_drop, enough_pages, pages_length}
use Rattle.page_layout.proofs.Printed.{page_lines, all_lines, cut_pages, page_at_lem, rows_printed_lem}
use Rattle.page_layout.proofs.Listed.{rows_squeezed}
use Rattle.claims.specs.FindingsPaged.{lines_of, pages_in, rows_of, Printed}

-- a kind that is not refused is shown unless it is 0
pub kind_shown : (kind : ℕ) → kind ≤ 8 → kind ≢ 0 → is_printed kind ≡ true
kind_shown kind few some = both (le-leb 1 kind (omega (arith, some))) (le-leb kind 8 few)

-- each of some lines
abbrev AllLines : List (List ℕ) → Type 0
AllLines lines = (i : ℕ) → i < length lines → Line (get_or lines i [])

all_append : (a b : List (List ℕ)) → AllLines a → AllLines b → AllLines (a ++ b)
all_append [] b first second i k = second i k
all_append (s ∷ a) b first second zero k = first 0 (omega arith)
all_append (s ∷ a) b first second (suc i) k = all_append a b (λ j l. first (suc j) (omega arith)) second i (omega arith)

all_one : {s : List ℕ} → Line s → AllLines (s ∷ [])
all_one line zero k = line
all_one line (suc i) k = absurd (omega arith)

all_rows : {rows : List Row} → AllHeld rows → AllLines (map row_line rows)
all_rows AllHeld.none i k = absurd (omega arith)
all_rows (AllHeld.more {row} one held) zero k = row_line_lem row one
all_rows (AllHeld.more one held) (suc i) k = all_rows held i (omega arith)

all_pages : (count number pages : ℕ) {rows : List Row} → AllHeld rows → AllLines (all_lines count number pages rows)
unfolding all_lines
all_pages zero number pages held = λ i k. absurd (omega arith)
all_pages (suc count) number pages {rows} held =
    let now = take per_page rows in
    all_append (page_lines number pages now) (all_lines count (suc number) pages (drop per_page rows))
    (all_append (heading ∷ map row_line now) (foot number pages ∷ [])
    (all_append (heading ∷ []) (map row_line now) (all_one heading_line) (all_rows (held_take per_page held))) (all_one (foot_line_lem number pages)))
    (all_pages count (suc number) pages (held_drop per_page held))

-- pages are counted so that all but the last are full
pages_full : (shown : ℕ) → per_page * (page_count shown - 1) ≤ shown
pages_full shown = omega arith

pub pages_rounded : (shown : ℕ) → 0 < shown → (per_page * (page_count shown - 1) < shown) × (shown ≤ per_page * page_count shown)
pages_rounded shown some = (omega arith, enough_pages shown)

module _ (findings : List ℕ) (bytes : (i : ℕ) → get_or findings i 0 < 256) (few : findings_in findings ≤ 65535) where
  held : AllHeld (shown_in findings)
  held = rows_held findings bytes 0 (findings_in findings) (omega arith)

  lines_cut : lines_of findings ≡ all_lines (pages_in findings) 1 (pages_in findings) (shown_in findings)
  unfolding pages_of
  lines_cut = cut_pages (pages_in findings) 1 (pages_in findings) held

  rows_there : rows_printed (pages_in findings) (lines_of findings) ≡ map row_line (shown_in findings)
  rows_there =
      ap (rows_printed (pages_in findings)) lines_cut ∙
      rows_printed_lem (pages_in findings) 1 (pages_in findings) (shown_in findings) (enough_pages (length (shown_in findings))) (pages_full (length (shown_in findings)))

  page_there : (before : ℕ) → before < pages_in findings → page_at before (lines_of findings) ≡ page_lines (suc before) (pages_in findings) (rows_of before findings)
  page_there before k =
      let number : 1 + before ≡ suc before = omega arith in
      ap (page_at before) lines_cut ∙ page_at_lem before (pages_in findings) 1 (pages_in findings) (shown_in findings) k (pages_full (length (shown_in findings))) ∙
      ap (λ (n : ℕ). page_lines n (pages_in findings) (rows_of before findings)) number

  pub is_printed_lem : Printed findings
  is_printed_lem =
      record {
        columns = subst AllLines (sym lines_cut) (all_pages (pages_in findings) 1 (pages_in findings) held);
        size = pages_length findings bytes few;
        page = page_there;
        full = λ before k. omega (arith, length-take per_page (drop (per_page * before) (shown_in findings)), length-drop (per_page * before) (shown_in findings));
        last = λ some. omega (
          arith,
          length-take per_page (drop (per_page * (pages_in findings - 1)) (shown_in findings)),
          length-drop (per_page * (pages_in findings - 1)) (shown_in findings),
          (pages_rounded (length (shown_in findings)) some).0,
        );
        rows = rows_there;
        listed = ap (map squeezed) rows_there ∙ rows_squeezed findings bytes 0 (findings_in findings) (omega arith);
      }
