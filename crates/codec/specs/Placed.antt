-- Bytes laid at a place of a slice.
use Rattle.std.specs.Prelude.{cond, List, ◌++◌, ℕ, ◌+◌, leb, length, take, drop}

-- the slice with these bytes at a place, and every other byte as it was
abbrev pub laid : ℕ → List ℕ → List ℕ → List ℕ
laid at bytes slice = take at slice ++ bytes ++ drop (at + length bytes) slice

-- the same where they fit; else the slice as it was
abbrev pub placed : ℕ → List ℕ → List ℕ → List ℕ
placed at bytes slice = cond (leb (at + length bytes) (length slice)) (laid at bytes slice) slice
