-- Head and foot of a listing are a line each.
use mathlib.Core.Path.{◌≡◌, refl, subst}
use mathlib.Core.List.{List, ◌∷◌, ◌++◌, append_assoc}
use Prim.Native.Nat.{ℕ}
use native.Mathlib.Omega.{arith}
use Rattle.text.specs.Text.{ascii, decimal}
use Rattle.text.specs.Cut.{cut}
use Rattle.text.proofs.Occurs.{both_lack, decimal_lacks}
use Rattle.text.proofs.Cut.{cut_line}
use Rattle.lines.specs.Lines.{head_line, foot_line}

pub head_cut : (events lines : ℕ) (rest : List ℕ) → cut (head_line events lines ++ rest) ≡ head_line events lines ∷ cut rest
unfolding head_line
head_cut events lines rest =
    let first = ascii "trace " ++ decimal events in
    let second = first ++ ascii " events " ++ decimal lines in
    subst (λ (s : List ℕ). cut (s ++ rest) ≡ s ∷ cut rest) (append_assoc second (ascii " lines") (ascii "\n"))
    (cut_line (second ++ ascii " lines") rest
    (both_lack 10 second (ascii " lines")
    (both_lack 10 (first ++ ascii " events ") (decimal lines)
    (both_lack 10 first (ascii " events ") (both_lack 10 (ascii "trace ") (decimal events) refl (decimal_lacks 10 events (omega arith))) refl)
    (decimal_lacks 10 lines (omega arith))) refl))

pub foot_cut : (findings : ℕ) (rest : List ℕ) → cut (foot_line findings ++ rest) ≡ foot_line findings ∷ cut rest
unfolding foot_line
foot_cut findings rest =
    cut_line (ascii "end " ++ decimal findings) rest (both_lack 10 (ascii "end ") (decimal findings) refl (decimal_lacks 10 findings (omega arith)))
