-- How many findings are shown of one.
use Rattle.std.specs.Prelude.{cond, ℕ}
use Rattle.finding_lines.specs.Lines.{is_printed}

-- of one of this kind: 1 or 0
abbrev pub shown : ℕ → ℕ
shown kind = cond (is_printed kind) 1 0
