-- The findings of an area, each with its event's number, which is its position from 1, and its site; and those of them that are shown.
use Rattle.std.specs.Prelude.{cond, List, [], ◌∷◌, ℕ, zero, suc, ◌+◌, ◌*◌}
use Rattle.event.specs.declared.Fields.{Fields}
use Rattle.codec.specs.Codec.{u16_at, fields_at, finding_size}
use Rattle.finding_lines.specs.declared.Row.{Row}
use Rattle.finding_lines.specs.Lines.{is_printed}

abbrev pub row_with : (event site : ℕ) → Fields → Row
row_with event site fields = record { event = event; site = site; fields = fields }

-- the finding with so many before it
abbrev pub row_at : ℕ → List ℕ → Row
row_at before area = row_with (suc before) (u16_at area (finding_size * before + 10)) (fields_at area (finding_size * before))

-- a finding in front of others, if it is shown
abbrev pub if_shown : Row → List Row → List Row
if_shown row rest = cond (is_printed row.fields.kind) (row ∷ rest) rest

-- of so many findings after the first ones, those that are shown
unfoldable pub rows_from : (before count : ℕ) → List ℕ → List Row
rows_from before zero area = []
rows_from before (suc count) area = if_shown (row_at before area) (rows_from (suc before) count area)
