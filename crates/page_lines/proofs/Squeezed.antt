-- The line of a finding on a page, with its blanks squeezed, is its line in the listing.
use mathlib.Core.Path.{◌≡◌, refl, sym, ap, ◌∙◌}
use mathlib.Core.Bool.{true, false}
use mathlib.Core.List.{List, ◌++◌, append_assoc}
use Prim.Native.Nat.{ℕ, ◌-◌, ◌≤◌, ◌<◌}
use native.Mathlib.Omega.{arith}
use lib.ListN.{length}
use Rattle.text.specs.Text.{ascii, decimal}
use Rattle.text.specs.Field.{blanks, right, padded}
use Rattle.text.specs.Occurs.{occurs}
use Rattle.text.specs.Cut.{squeezed_after, squeezed}
use Rattle.text.proofs.Decimal.{decimal_front, five_digits}
use Rattle.text.proofs.Occurs.{decimal_lacks}
use Rattle.text.proofs.Cut.{squeeze_first, squeeze_right, squeeze_padded}
use Rattle.finding_lines.specs.declared.Row.{Row}
use Rattle.finding_lines.specs.Lines.{name_of, is_printed}
use Rattle.finding_lines.specs.Lines.{field as listed-field, values as listed-values, columns as listed}
use Rattle.finding_lines.proofs.Names.{no_blank, some_name}
use Rattle.page_lines.specs.Lines.{values, columns, row_line}
use Rattle.page_lines.specs.Line.{Held}

-- a number of 16 bits
module _ (n : ℕ) (few : n ≤ 65535) where
  some_digit : 0 < length (decimal n)
  some_digit = (decimal_front n (omega arith)).0

  no_blank_in : occurs 32 (decimal n) ≡ 0
  no_blank_in = decimal_lacks 32 n (omega arith)

  -- with what comes behind it, at the start of the line, and behind other columns
  number_first : (width : ℕ) (s : List ℕ) {t : List ℕ} → squeezed_after false s ≡ t → squeezed_after true (right width (decimal n) ++ s) ≡ decimal n ++ t
  number_first width s e = squeeze_first width (decimal n) s some_digit no_blank_in ∙ ap (λ (u : List ℕ). decimal n ++ u) e

  number_right : (width : ℕ) (s : List ℕ) {t : List ℕ} → 5 < width → squeezed_after false s ≡ t →
      squeezed_after false (right width (decimal n) ++ s) ≡ listed-field n ++ t
  unfolding listed-field
  number_right width s k e =
      squeeze_right width (decimal n) s some_digit no_blank_in (omega (arith, five_digits n few)) ∙ ap (λ (u : List ℕ). listed-field n ++ u) e

  -- a name, with the number and what comes behind it
  name_before : (kind : ℕ) (s : List ℕ) {t : List ℕ} → is_printed kind ≡ true → squeezed_after false (right 7 (decimal n) ++ s) ≡ t →
      squeezed_after false (padded 16 (ascii "  " ++ name_of kind) ++ (right 7 (decimal n) ++ s)) ≡ ascii " " ++ name_of kind ++ t
  name_before kind s some e =
      let name = name_of kind in
      let parts = append_assoc (blanks (7 - length (decimal n))) (decimal n) s in
      ap (λ (u : List ℕ). squeezed_after false (padded 16 (ascii "  " ++ name) ++ u)) parts ∙
      squeeze_padded 16 name (7 - length (decimal n)) (decimal n ++ s) (some_name kind some) (no_blank kind) (omega (arith, five_digits n few)) ∙
      ap (λ (u : List ℕ). ascii " " ++ name ++ u) (ap (squeezed_after false) (sym parts) ∙ e)

-- both lines, one part after another
page_parts : (a b c d e f g h : List ℕ) → a ++ b ++ c ++ (d ++ e ++ f ++ g) ++ h ≡ a ++ (b ++ (c ++ (d ++ (e ++ (f ++ (g ++ h))))))
page_parts a b c d e f g h = simp append_assoc refl

listing_parts : (a b c d e f g h i : List ℕ) → a ++ b ++ c ++ d ++ (e ++ f ++ g ++ h) ++ i ≡ a ++ (b ++ (c ++ d ++ (e ++ (f ++ (g ++ (h ++ i))))))
listing_parts a b c d e f g h i = simp append_assoc refl

pub row_squeezed : (row : Row) → Held row → is_printed row.fields.kind ≡ true →
    squeezed (row_line row) ≡ listed row.event row.site row.fields
unfolding squeezed_after values columns row_line listed-values listed
row_squeezed row h some =
    let f = row.fields in
    let r : ℕ → List ℕ = λ n. right 7 (decimal n) in
    let end = ascii "\n" in
    let four = r f.store ++ end in
    let three = r f.moment ++ four in
    let two = r f.kept ++ three in
    let one = r f.lost ++ two in
    let name = padded 16 (ascii "  " ++ name_of f.kind) in
    let values-squeezed =
    number_right f.lost h.lost 7 two (omega arith)
    (number_right f.kept h.kept 7 three (omega arith)
    (number_right f.moment h.moment 7 four (omega arith)
    (number_right f.store h.store 7 end (omega arith) refl))) in
    ap squeezed (page_parts (right 6 (decimal row.event)) (right 11 (decimal row.site)) name (r f.lost) (r f.kept) (r f.moment) (r f.store) end) ∙
    number_first row.event h.event 6 (right 11 (decimal row.site) ++ (name ++ one))
    (number_right row.site h.site 11 (name ++ one) (omega arith)
    (name_before f.lost h.lost f.kind two some values-squeezed)) ∙
    sym (listing_parts (decimal row.event) (listed-field row.site) (ascii " ") (name_of f.kind)
    (listed-field f.lost) (listed-field f.kept) (listed-field f.moment) (listed-field f.store) end)
