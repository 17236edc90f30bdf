-- Request 3: findings laid out for print. Over every findings area that is not refused by 5, and over every accepted trace. The texts are
-- read as a reader would: cut at their line feeds, page by page.
use Rattle.std.specs.Prelude.{◌≡◌, ◌≢◌, true, false, List, [], ◌∷◌, ◌++◌, map, ℕ, suc, ◌+◌, ◌-◌, ◌*◌, ◌≤◌, ◌<◌, length, take, drop, get_or}
use Rattle.event.specs.Reply.{Reply}
use Rattle.codec.specs.Codec.{finding_size}
use Rattle.history.specs.Refused.{NoneBroken}
use Rattle.trace.specs.Records.{events_in}
use Rattle.verdict.specs.Verdict.{verdict_of, verdict_reply, area_after}
use Rattle.text.specs.Cut.{cut, squeezed}
use Rattle.finding_lines.specs.declared.Row.{Row}
use Rattle.finding_lines.specs.Lines.{is_printed}
use Rattle.finding_lines.specs.Area.{line_of}
use Rattle.listing.specs.Report.{report_of}
use Rattle.page_lines.specs.Lines.{heading, row_line, foot}
use Rattle.page_lines.specs.Line.{Line, Held}
use Rattle.page_layout.specs.Pages.{per_page, page_count, shown_in, pages_of}
use Rattle.page_layout.specs.Printed.{page_at, inner, rows_printed}
use Rattle.pages.specs.Limits.{whole_limits}
use Rattle.pages.specs.Paged.{paged_of, paged_reply}

-- the lines of an area's pages, how many pages there are, and the findings on the page that has so many before it
abbrev pub lines_of : List ℕ → List (List ℕ)
lines_of findings = cut (pages_of findings)

abbrev pub pages_in : List ℕ → ℕ
pages_in findings = page_count (length (shown_in findings))

abbrev pub rows_of : ℕ → List ℕ → List Row
rows_of before findings = take per_page (drop (per_page * before) (shown_in findings))

-- the pages of an area
pub record Printed (findings : List ℕ) : Type 0 where
  -- every line has 61 columns and a line feed
  pub columns : (i : ℕ) → i < length (lines_of findings) → Line (get_or (lines_of findings) i [])
  -- the length is 62 × (2 × pages + findings shown)
  pub size : length (pages_of findings) ≡ 62 * (2 * pages_in findings + length (shown_in findings))
  -- a page is the heading, the next 58 findings that are shown, and the foot
  pub page : (before : ℕ) → before < pages_in findings →
      page_at before (lines_of findings) ≡ heading ∷ map row_line (rows_of before findings) ++ foot (suc before) (pages_in findings) ∷ []
  -- fewer, but at least one, only on the last page; none only where nothing is shown
  pub full : (before : ℕ) → suc before < pages_in findings → length (rows_of before findings) ≡ per_page
  pub last : 0 < length (shown_in findings) → 0 < length (rows_of (pages_in findings - 1) findings)
  -- the lines between headings and feet are those of the findings that are shown, in event order, each once; with their blanks squeezed
  -- they are the lines of a listing
  pub rows : rows_printed (pages_in findings) (lines_of findings) ≡ map row_line (shown_in findings)
  pub listed : map squeezed (rows_printed (pages_in findings) (lines_of findings)) ≡ map line_of (shown_in findings)

-- the findings that the judge left of an accepted trace
pub record TracePaged (trace area findings : List ℕ) : Type 0 where
  -- they are refused by no number but 16
  pub taken : (pages : List ℕ) → length (pages_of findings) ≤ length pages →
      paged_reply (paged_of findings (length pages)) ≡ Reply.values (length (pages_of findings) ∷ [])
  pub short : (pages : List ℕ) → length pages < length (pages_of findings) → paged_reply (paged_of findings (length pages)) ≡ Reply.refused 16 0
  -- the pages show the listing's rows, each on exactly one line: the lines between headings and feet, with their blanks squeezed, are the
  -- lines between head and foot of the listing
  pub listing : map squeezed (rows_printed (pages_in findings) (lines_of findings)) ≡ inner (cut (report_of trace area))

pub record FindingsPaged : Type 0 where
  -- every line of a page has 61 columns and a line feed, for every finding that 16 bits can hold
  pub row : (row : Row) → Held row → Line (row_line row)
  pub headings : Line heading
  pub feet : (page pages : ℕ) → Line (foot page pages)
  -- of the kinds that are not refused all but 0 are shown
  pub shown : (kind : ℕ) → kind ≤ 8 → kind ≢ 0 → is_printed kind ≡ true
  pub hidden : is_printed 0 ≡ false
  -- the pages are the number shown, divided by 58 and rounded up; at least 1
  pub none : page_count 0 ≡ 1
  pub rounded : (shown : ℕ) → 0 < shown → (per_page * (page_count shown - 1) < shown) × (shown ≤ per_page * page_count shown)
  -- every area of bytes with a whole number of findings, at most 65,535
  pub printed : (findings : List ℕ) → ((i : ℕ) → get_or findings i 0 < 256) → NoneBroken (whole_limits findings) → Printed findings
  -- every accepted trace
  pub traces : (trace area totals : List ℕ) → ((i : ℕ) → get_or trace i 0 < 256) → verdict_reply (verdict_of trace area) ≡ Reply.values totals →
      TracePaged trace area (take (finding_size * length (events_in trace)) (area_after trace area))
