-- A table, and the one way in which it is changed: some entries in a row, each made from its place and what stood there.
use Rattle.std.specs.Prelude.{List, ℕ, zero, suc, ◌+◌, ◌-◌, min, get_or, set}
use Rattle.event.specs.declared.Range.{Range}
use Rattle.window.specs.Window.{most_lines, window_bytes, line_of}
use Rattle.ranges.specs.Ranges.{line_count}

-- the entry at a place; 0 past the end
abbrev pub entry : List ℕ → ℕ → ℕ
entry xs place = get_or xs place 0

-- the n entries from a place on are changed
unfoldable pub changed : (ℕ → ℕ → ℕ) → ℕ → ℕ → List ℕ → List ℕ
changed f at zero xs = xs
changed f at (suc n) xs = set (changed f at n xs) (at + n) (f (at + n) (entry xs (at + n)))

-- they all become x
abbrev pub filled : ℕ → ℕ → ℕ → List ℕ → List ℕ
filled x at n xs = changed (λ place old. x) at n xs

-- the entries of a range's bytes become x
abbrev pub filled_bytes : ℕ → Range → List ℕ → List ℕ
filled_bytes x a xs = filled x a.address a.length xs

-- the entries of the lines that a range touches become x
abbrev pub filled_lines : ℕ → Range → List ℕ → List ℕ
filled_lines x a xs = filled x (line_of a.address) (line_count a) xs

-- a table over bytes has an entry for each byte of the largest window
abbrev pub table_bytes : ℕ
table_bytes = window_bytes most_lines

-- the part of a range that the tables have
abbrev pub in_tables : Range → Range
in_tables a = record { address = min a.address table_bytes; length = min a.length (table_bytes - a.address) }
