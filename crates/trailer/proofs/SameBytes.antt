-- Two strings compared byte by byte from the front.
use Rattle.std.proofs.Common.{◌≡◌, ℕ, List, [], ◌∷◌, ◌&&◌, nat_eq, true, refl, sym, ap, ◌∙◌}
use Rattle.std.proofs.lemmas.Bool.Decides.{Decides-eqb}
use Rattle.std.proofs.lemmas.Cmp.{nat_list_eq_equiv}
use Rattle.std.proofs.lemmas.Slice.Eq.{slice_eq-Decides}
use lib.Pointwise.{pointwise}
use Rattle.trailer.specs.Trailer.{mark, same_bytes}

-- strings have the same bytes as `==` of two slices says
same_bytes_is : (a b : List ℕ) → same_bytes a b ≡ pointwise nat_eq a b
unfolding same_bytes
same_bytes_is [] [] = refl
same_bytes_is [] (y ∷ b) = refl
same_bytes_is (x ∷ a) [] = refl
same_bytes_is (x ∷ a) (y ∷ b) = ap (λ rest. nat_eq x y && rest) (same_bytes_is a b)

-- strings with the same bytes are equal
pub same_bytes_lem : (a b : List ℕ) → same_bytes a b ≡ true → a ≡ b
same_bytes_lem a b e = (slice_eq-Decides Decides-eqb a b _ (same_bytes_is a b)).0 e

-- the mark stands in front of a string where it is what `starts_with` looks for
pub starts_with_mark : (front : List ℕ) → pointwise nat_eq mark front ≡ same_bytes front mark
starts_with_mark front = nat_list_eq_equiv.symm mark front ∙ sym (same_bytes_is front mark)
