-- The lines around the findings: one blank parts the fields, a line feed ends each line, and the words do not change with the counts.
use Rattle.std.specs.Prelude.{List, ◌++◌, ℕ}
use Rattle.text.specs.Text.{ascii, decimal}

-- the head gives the event count and the window's line count
unfoldable pub head_line : (events lines : ℕ) → List ℕ
head_line events lines = ascii "trace " ++ decimal events ++ ascii " events " ++ decimal lines ++ ascii " lines\n"

-- the foot counts the finding lines
unfoldable pub foot_line : ℕ → List ℕ
foot_line findings = ascii "end " ++ decimal findings ++ ascii "\n"

-- a refusal: its number, and the record's number
unfoldable pub refusal_line : (number at : ℕ) → List ℕ
refusal_line number at = ascii "refused " ++ decimal number ++ ascii " at " ++ decimal at ++ ascii "\n"
