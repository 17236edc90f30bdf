-- A printed text, as a reader takes it apart.
use Rattle.std.specs.Prelude.{Bool, true, false, cond, List, [], ◌∷◌, ℕ, eqb}

-- a byte in front of the first of some lines
abbrev pub onto : ℕ → List (List ℕ) → List (List ℕ)
onto b [] = (b ∷ []) ∷ []
onto b (line ∷ rest) = (b ∷ line) ∷ rest

-- the lines of a text, each up to and with its line feed
unfoldable pub cut : List ℕ → List (List ℕ)
cut [] = []
cut (b ∷ rest) = cond (eqb b 10) ((b ∷ []) ∷ cut rest) (onto b (cut rest))

-- the rest of a line with each run of blanks made one, and none where a blank or the line's start is before it
unfoldable pub squeezed_after : (blank : Bool) → List ℕ → List ℕ
squeezed_after blank [] = []
squeezed_after blank (b ∷ rest) =
    cond (eqb b 32) (cond blank (squeezed_after true rest) (b ∷ squeezed_after true rest)) (b ∷ squeezed_after false rest)

-- a line with each run of blanks made one, and none in front
abbrev pub squeezed : List ℕ → List ℕ
squeezed line = squeezed_after true line
