-- The window: its size, its lines and words, and the limit 4.
use Rattle.std.specs.Prelude.{Bool, cond, ◌||◌, ℕ, ◌*◌, ◌/◌, ltb, eqb, Ok, Err}
use Rattle.event.specs.declared.Refusal.TheVariants.{BadLines}
use Rattle.event.specs.Answers.{Check}

-- a line has 64 bytes, and a window 1 to 64 lines
abbrev pub line_bytes : ℕ
line_bytes = 64

abbrev pub most_lines : ℕ
most_lines = 64

-- the window's size in bytes: addresses count from its start
abbrev pub window_bytes : ℕ → ℕ
window_bytes lines = lines * line_bytes

-- the line that holds a byte
abbrev pub line_of : ℕ → ℕ
line_of byte = byte / line_bytes

-- a word has 8 bytes, and starts at an address divisible by 8
abbrev pub word_bytes : ℕ
word_bytes = 8

-- the word that holds a byte
abbrev pub word_of : ℕ → ℕ
word_of byte = byte / word_bytes

-- the start address of each line of the largest window, and 0 beyond it
abbrev pub line_start : ℕ → ℕ
line_start line = cond (ltb line most_lines) (line * line_bytes) 0

-- lines outside 1 to 64
abbrev pub bad_lines : ℕ → Bool
bad_lines lines = eqb lines 0 || ltb most_lines lines

-- 4: so many lines are no window
abbrev pub lines_check : ℕ → Check
lines_check lines = cond (bad_lines lines) (Err BadLines) (Ok tt)
