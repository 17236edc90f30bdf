-- Laws of parts of a list.
use mathlib.Core.Path.{◌≡◌, ap, ◌∙◌}
use mathlib.Core.List.{List, [], ◌∷◌, ◌++◌, append_assoc}
use Prim.Native.Nat.{ℕ, zero, suc, ◌+◌, ◌-◌, ◌≤◌}
use native.Mathlib.Omega.{arith}
use lib.ListN.{length, take, drop, get_or, length-append, length-drop, take-append-drop, drop_of_length-le}
use lib.Seq.{take_all, take_at, drop_at, drop-append_seam, drop-cons, take-add}

-- nothing is taken by a difference of a number and one that is not less
pub none_taken : (m n : ℕ) (l : List ℕ) → m ≤ n → [] ≡ take (m - n) l
none_taken m n l k = let z : m - n ≡ 0 = omega arith in rw z

-- all that is left
pub rest_taken : (n : ℕ) (l : List ℕ) → take (length l - n) (drop n l) ≡ drop n l
rest_taken n l = take_all (length l - n) (drop n l) (omega (arith, length-drop n l))

-- the last of two parts
pub last_part : (a b : List ℕ) → drop (length (a ++ b) - length b) (a ++ b) ≡ b
last_part a b = drop_at a b (length (a ++ b) - length b) (simp length-append (omega arith))

-- the middle one of three
pub middle_part : (a b c : List ℕ) → take (length (a ++ b ++ c) - length c - length a) (drop (length a) (a ++ b ++ c)) ≡ b
middle_part a b c =
    rw (append_assoc a b c, drop-append_seam a (b ++ c))
    (take_at b c (length (a ++ (b ++ c)) - length c - length a) (simp length-append (omega arith)))

-- a list cut at two places
pub three_parts : (m n : ℕ) (l : List ℕ) → m ≤ n → l ≡ take m l ++ take (n - m) (drop m l) ++ drop n l
three_parts m n l k = let z : m + (n - m) ≡ n = omega arith in rw (← take-add m (n - m) l, z, take-append-drop n l)

-- n entries from place i on
abbrev pub entries : (n i : ℕ) → List ℕ → List ℕ
entries zero i l = []
entries (suc n) i l = get_or l i 0 ∷ entries n (suc i) l

-- they are all that is left of a list that ends with them
pub left_entries : (n i : ℕ) (l : List ℕ) → length l ≡ i + n → drop i l ≡ entries n i l
left_entries zero i l e = drop_of_length-le l {i = i} (omega arith)
left_entries (suc n) i l e = drop-cons l i 0 (omega arith) ∙ ap (λ (r : List ℕ). get_or l i 0 ∷ r) (left_entries n (suc i) l (omega arith))
