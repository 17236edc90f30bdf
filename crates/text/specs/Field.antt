-- Text in a field of so many columns. A text that is longer than the field stays whole.
use Rattle.std.specs.Prelude.{List, ◌++◌, ℕ, ◌-◌, length, replicate}

-- so many blanks
abbrev pub blanks : ℕ → List ℕ
blanks n = replicate n 32

-- right in a field: blanks in front
abbrev pub right : (width : ℕ) → List ℕ → List ℕ
right width s = blanks (width - length s) ++ s

-- padded on the right: blanks behind
abbrev pub padded : (width : ℕ) → List ℕ → List ℕ
padded width s = s ++ blanks (width - length s)
