-- Every line of a page has 61 columns and a line feed, for every finding that 16 bits can hold.
use mathlib.Core.Path.{◌≡◌, refl}
use mathlib.Core.List.{List, [], ◌∷◌, ◌++◌}
use Prim.Native.Nat.{ℕ, ◌+◌, ◌≤◌}
use native.Mathlib.Omega.{arith}
use lib.ListN.{length, length-append}
use Rattle.text.specs.Text.{ascii, decimal}
use Rattle.text.specs.Field.{right, padded}
use Rattle.text.proofs.Decimal.{five_digits}
use Rattle.text.proofs.Fields.{right_length, padded_length}
use Rattle.text.specs.Occurs.{occurs}
use Rattle.text.proofs.Occurs.{both_lack, decimal_lacks, right_lacks, padded_lacks}
use Rattle.finding_lines.specs.declared.Row.{Row}
use Rattle.finding_lines.specs.Lines.{name_of}
use Rattle.finding_lines.proofs.Names.{name_size, no_feed}
use Rattle.page_lines.specs.Lines.{values, columns, heading, row_line, foot}
use Rattle.page_lines.specs.Line.{Line, Held}
use Rattle.page_lines.proofs.Padded.{foot_words}

-- a line has 62 bytes
pub line_length : {s : List ℕ} → Line s → length s ≡ 62
line_length {s} l = rw l.whole (omega (arith, length-append l.body (10 ∷ []), l.columns))

-- so many columns, none of which is a line feed
record Part (n : ℕ) (s : List ℕ) : Type 0 where
  size : length s ≡ n
  plain : occurs 10 s ≡ 0

-- two parts beside each other, and a line of them
beside : {m n : ℕ} {s t : List ℕ} → Part m s → Part n t → Part (m + n) (s ++ t)
beside {s = s} {t = t} a b =
    record { size = omega (arith, length-append s t, a.size, b.size); plain = both_lack 10 s t a.plain b.plain }

ended : {s : List ℕ} → Part 61 s → Line (s ++ ascii "\n")
ended {s} p = record { body = s; whole = refl; columns = p.size; unbroken = p.plain }

-- a text that has room in a field, and no line feed
record Fits (width : ℕ) (s : List ℕ) : Type 0 where
  short : length s ≤ width
  plain : occurs 10 s ≡ 0

right_part : (width : ℕ) (s : List ℕ) → Fits width s → Part width (right width s)
right_part width s f = record { size = right_length width s f.short; plain = right_lacks 10 width s (λ e. omega arith) f.plain }

padded_part : (width : ℕ) (s : List ℕ) → Fits width s → Part width (padded width s)
padded_part width s f = record { size = padded_length width s f.short; plain = padded_lacks 10 width s (λ e. omega arith) f.plain }

-- the line of seven texts that fit
columns_line : (event site name lost kept moment store : List ℕ) → Fits 6 event → Fits 11 site → Fits 16 (ascii "  " ++ name) →
    Fits 7 lost → Fits 7 kept → Fits 7 moment → Fits 7 store → Line (columns event site name lost kept moment store)
unfolding values columns
columns_line event site name lost kept moment store a b c d e f g =
    let four : Part 28 (values lost kept moment store) =
    beside (beside (beside (right_part 7 lost d) (right_part 7 kept e)) (right_part 7 moment f)) (right_part 7 store g) in
    let three : Part 33 (right 6 event ++ right 11 site ++ padded 16 (ascii "  " ++ name)) =
    beside (beside (right_part 6 event a) (right_part 11 site b)) (padded_part 16 (ascii "  " ++ name) c) in
    ended (beside three four)

-- of numbers of 16 bits and a name
number_fits : (width n : ℕ) → 5 ≤ width → n ≤ 65535 → Fits width (decimal n)
number_fits width n k h = record { short = omega (arith, five_digits n h); plain = decimal_lacks 10 n (omega arith) }

name_fits : (kind : ℕ) → Fits 16 (ascii "  " ++ name_of kind)
name_fits kind = record { short = omega (arith, name_size kind); plain = both_lack 10 (ascii "  ") (name_of kind) refl (no_feed kind) }

pub row_line_lem : (row : Row) → Held row → Line (row_line row)
unfolding row_line
row_line_lem row h =
    let f = row.fields in
    columns_line (decimal row.event) (decimal row.site) (name_of f.kind)
    (decimal f.lost) (decimal f.kept) (decimal f.moment) (decimal f.store)
    (number_fits 6 row.event (omega arith) h.event) (number_fits 11 row.site (omega arith) h.site) (name_fits f.kind)
    (number_fits 7 f.lost (omega arith) h.lost) (number_fits 7 f.kept (omega arith) h.kept)
    (number_fits 7 f.moment (omega arith) h.moment) (number_fits 7 f.store (omega arith) h.store)

pub heading_line : Line heading
unfolding heading
heading_line =
    columns_line (ascii "event") (ascii "site") (ascii "finding") (ascii "lost") (ascii "kept") (ascii "moment") (ascii "store")
    (word 6 (ascii "event") (omega arith) refl) (word 11 (ascii "site") (omega arith) refl) (word 16 (ascii "  finding") (omega arith) refl)
    (word 7 (ascii "lost") (omega arith) refl) (word 7 (ascii "kept") (omega arith) refl) (word 7 (ascii "moment") (omega arith) refl)
    (word 7 (ascii "store") (omega arith) refl)
  where
    word : (width : ℕ) (s : List ℕ) → length s ≤ width → occurs 10 s ≡ 0 → Fits width s
    word width s k e = record { short = k; plain = e }

-- whatever the numbers of the pages are
pub foot_line_lem : (page pages : ℕ) → Line (foot page pages)
unfolding foot
foot_line_lem page pages =
    let words = ascii "page " ++ decimal page ++ ascii " of " ++ decimal pages in
    let plain : occurs 10 words ≡ 0 =
    both_lack 10 (ascii "page " ++ decimal page ++ ascii " of ") (decimal pages)
    (both_lack 10 (ascii "page " ++ decimal page) (ascii " of ") (both_lack 10 (ascii "page ") (decimal page) refl (decimal_lacks 10 page (omega arith))) refl)
    (decimal_lacks 10 pages (omega arith)) in
    ended (padded_part 61 words (record { short = foot_words page pages; plain = plain }))
