-- Texts cut at their line feeds, and lines with their blanks squeezed.
use mathlib.Core.Path.{◌≡◌, refl, sym, ap, ◌∙◌}
use mathlib.Core.Bool.{Bool, true, false, cond}
use mathlib.Core.List.{List, [], ◌∷◌, ◌++◌, append_assoc}
use Prim.Native.Nat.{ℕ, zero, suc, ◌+◌, ◌-◌, ◌<◌}
use native.Mathlib.Omega.{arith}
use lib.Dec.{eqb}
use lib.ListN.{length}
use Rattle.text.specs.Text.{ascii}
use Rattle.text.specs.Field.{blanks, right, padded}
use Rattle.text.specs.Occurs.{occurs}
use Rattle.text.specs.Cut.{cut, squeezed_after}

-- a byte that a text lacks is none of its bytes
lacks_first : (b x : ℕ) (s : List ℕ) → occurs b (x ∷ s) ≡ 0 → eqb x b ≡ false
lacks_first b x s e = go (eqb x b) e
  where
    go : (t : Bool) → cond t 1 0 + occurs b s ≡ 0 → t ≡ false
    go true e = absurd (omega arith)
    go false e = refl

lacks_rest : (b x : ℕ) (s : List ℕ) → occurs b (x ∷ s) ≡ 0 → occurs b s ≡ 0
lacks_rest b x s e = omega arith

-- a text that lacks a line feed, and a line feed, are a line
pub cut_line : (body rest : List ℕ) → occurs 10 body ≡ 0 → cut (body ++ ascii "\n" ++ rest) ≡ (body ++ ascii "\n") ∷ cut rest
unfolding cut
cut_line [] rest e = refl
cut_line (x ∷ body) rest e = rw (lacks_first 10 x body e, cut_line body rest (lacks_rest 10 x body e))

-- blanks behind a blank go, and others are one
skip_blanks : (n : ℕ) (s : List ℕ) → squeezed_after true (blanks n ++ s) ≡ squeezed_after true s
unfolding squeezed_after
skip_blanks zero s = refl
skip_blanks (suc n) s = skip_blanks n s

one_blank : (n : ℕ) (s : List ℕ) → 0 < n → squeezed_after false (blanks n ++ s) ≡ 32 ∷ squeezed_after true s
unfolding squeezed_after
one_blank zero s k = absurd (omega arith)
one_blank (suc n) s k = ap (λ (t : List ℕ). 32 ∷ t) (skip_blanks n s)

-- a word stays
keep_word : (blank : Bool) (word s : List ℕ) → 0 < length word → occurs 32 word ≡ 0 → squeezed_after blank (word ++ s) ≡ word ++ squeezed_after false s
unfolding squeezed_after
keep_word blank [] s k e = absurd (omega arith)
keep_word blank (x ∷ []) s k e = rw (lacks_first 32 x [] e)
keep_word blank (x ∷ (y ∷ word)) s k e =
    rw (lacks_first 32 x (y ∷ word) e, keep_word false (y ∷ word) s (omega arith) (lacks_rest 32 x (y ∷ word) e))

-- so of a word right in a field that is wider there is one blank and the word, and at the start of a line the word alone
module _ (width : ℕ) (word s : List ℕ) (some : 0 < length word) (plain : occurs 32 word ≡ 0) where
  pub squeeze_first : squeezed_after true (right width word ++ s) ≡ word ++ squeezed_after false s
  squeeze_first =
      ap (squeezed_after true) (append_assoc (blanks (width - length word)) word s) ∙ skip_blanks (width - length word) (word ++ s) ∙
      keep_word true word s some plain

  pub squeeze_right : length word < width → squeezed_after false (right width word ++ s) ≡ ascii " " ++ word ++ squeezed_after false s
  squeeze_right k =
      ap (squeezed_after false) (append_assoc (blanks (width - length word)) word s) ∙ one_blank (width - length word) (word ++ s) (omega arith) ∙
      ap (λ (t : List ℕ). 32 ∷ t) (keep_word true word s some plain)

-- blanks in front of a field that starts with one make no difference
more_blanks : (k n : ℕ) (s : List ℕ) → 0 < n → squeezed_after false (blanks k ++ (blanks n ++ s)) ≡ squeezed_after false (blanks n ++ s)
unfolding squeezed_after
more_blanks zero n s some = refl
more_blanks (suc k) n s some =
    ap (λ (t : List ℕ). 32 ∷ t) (skip_blanks k (blanks n ++ s) ∙ skip_blanks n s) ∙ sym (one_blank n s some)

-- so of a word behind two blanks, padded, in front of such a field, there is one blank and the word
pub squeeze_padded : (width : ℕ) (word : List ℕ) (n : ℕ) (s : List ℕ) → 0 < length word → occurs 32 word ≡ 0 → 0 < n →
    squeezed_after false (padded width (ascii "  " ++ word) ++ (blanks n ++ s)) ≡ ascii " " ++ word ++ squeezed_after false (blanks n ++ s)
unfolding squeezed_after
squeeze_padded width word n s some plain k =
    let free = width - length (ascii "  " ++ word) in
    ap (λ (t : List ℕ). 32 ∷ t)
    (ap (squeezed_after true) (append_assoc word (blanks free) (blanks n ++ s)) ∙ keep_word true word (blanks free ++ (blanks n ++ s)) some plain ∙
    ap (λ (t : List ℕ). word ++ t) (more_blanks free n s k))
