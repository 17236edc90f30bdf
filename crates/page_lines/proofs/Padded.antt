-- The name of a finding in its field, and the words of a foot, put into blanks.
use mathlib.Core.Path.{◌≡◌, ap, ◌∙◌}
use mathlib.Core.List.{List, ◌++◌}
use Prim.Native.Nat.{ℕ, ◌-◌, ◌≤◌}
use native.Mathlib.Omega.{arith}
use lib.ListN.{length, length-append}
use Rattle.text.specs.Text.{ascii, decimal, Out, out, put}
use Rattle.text.specs.Field.{blanks, padded}
use Rattle.text.specs.Cursor.{Puts}
use Rattle.text.specs.declared.Cursor.{Cursor}
use Rattle.text.proofs.Decimal.{decimal_length}
use Rattle.text.proofs.Puts.{◌then◌}
use Rattle.text.proofs.Fields.{padded_put}
use Rattle.page_lines.specs.Lines.{foot}

-- two blanks and then a word in a field of 14 are the field of 16
pub behind_two : (word : List ℕ) {o p q : Cursor} → Puts (ascii "  ") o p → Puts (padded 14 word) p q → Puts (padded 16 (ascii "  " ++ word)) o q
behind_two word e f = let free : 16 - length (ascii "  " ++ word) ≡ 14 - length word = omega arith in rw free (e then f)

-- the words of a foot fit into a line
pub foot_words : (page pages : ℕ) → length (ascii "page " ++ decimal page ++ ascii " of " ++ decimal pages) ≤ 61
foot_words page pages = simp length-append (omega (arith, decimal_length page, decimal_length pages))

-- so the line of blanks that they were put into is a foot
pub foot_put : (page pages : ℕ) {line : List ℕ} {n : ℕ} {o p q : Cursor} →
    out line n ≡ put (ascii "page " ++ decimal page ++ ascii " of " ++ decimal pages) (out (blanks 61) 0) →
    Puts line o p → Puts (ascii "\n") p q → Puts (foot page pages) o q
unfolding foot
foot_put page pages {line} e f g =
    let words = ascii "page " ++ decimal page ++ ascii " of " ++ decimal pages in
    let filled : line ≡ padded 61 words = ap (λ (o : Out). o.bytes) e ∙ padded_put 61 words (foot_words page pages) in
    (rw filled at f) then g
