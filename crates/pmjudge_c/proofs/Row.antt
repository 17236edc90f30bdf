-- The numbers of an answer in a row of any length: the refusal's two, and then as many values as there is room for.
use mathlib.Core.Path.{◌≡◌, refl, sym, ap, ap₂, ◌∙◌}
use mathlib.Core.List.{List, [], ◌∷◌, ◌++◌, append-nil}
use Prim.Native.Nat.{ℕ, zero, suc, ◌-◌, ◌≤◌}
use native.Mathlib.Omega.{arith}
use lib.ListN.{length, replicate, set, take, drop, length-drop, drop_of_length-le}
use borrow.Rule.Slice.PartMut.{put_mid}
use Rattle.records.specs.Record.{padded}
use Rattle.replies.proofs.Filled.{padded_taken}

-- zeros with the first two replaced
abbrev start : (size a b : ℕ) → List ℕ
start size a b = set (set (replicate size 0) 0 a) 1 b

front : (size a b : ℕ) → 2 ≤ size → take 2 (start size a b) ≡ a ∷ b ∷ []
front zero a b k = absurd (omega (arith, k))
front (suc zero) a b k = absurd (omega (arith, k))
front (suc (suc n)) a b k = refl

pub row : (size a b : ℕ) (values part : List ℕ) → 2 ≤ size → size - 2 ≤ length values → part ≡ take (size - 2) values →
    put_mid 2 (length (start size a b) - 2) (start size a b) part ≡ a ∷ b ∷ padded (size - 2) values
row size a b values part k room e =
    let s = start size a b in
    ap₂ (λ (l m : List ℕ). l ++ (part ++ m)) (front size a b k) (drop_of_length-le (drop 2 s) {i = length s - 2} (omega (arith, length-drop 2 s))) ∙
    ap (λ (l : List ℕ). a ∷ b ∷ l) (append-nil part ∙ e ∙ sym (padded_taken (size - 2) values room))
