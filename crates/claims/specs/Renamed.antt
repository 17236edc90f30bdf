-- Event numbers renamed where an answer, the bytes of a finding or a finding that is printed name them; and what changes with two
-- neighbours: the records of a trace, its findings area, and the findings that are shown.
use Rattle.std.specs.Prelude.{List, ◌++◌, map, ℕ, zero, suc, ◌+◌, ◌-◌, ◌*◌, ◌/◌, length, take, drop}
use Rattle.event.specs.Numbers.{fields_with}
use Rattle.event.specs.Reply.{Reply}
use Rattle.codec.specs.Codec.{u16_at, u16_bytes, finding_size}
use Rattle.records.specs.Record.{record_size}
use Rattle.history.specs.Swap.{exchanged}
use Rattle.trailer.specs.Trailer.{trailer_of}
use Rattle.finding_lines.specs.declared.Row.{Row}
use Rattle.finding_lines.specs.Rows.{row_with, row_at, if_shown, rows_from}
use Rattle.claims.specs.SharedRanges.{record_after}

-- an event given: kind, lost and kept stay, and moment and store, behind them, are renamed
abbrev pub renamed_finding : (ℕ → ℕ) → Reply → Reply
renamed_finding x (Reply.refused number at) = Reply.refused number at
renamed_finding x (Reply.values v) = Reply.values (take 3 v ++ map x (drop 3 v))

-- an interval: one epoch and two events, or two epochs and three events; the events are renamed, and what is behind them stays
abbrev pub renamed_events : (epochs : ℕ) → (ℕ → ℕ) → List ℕ → List ℕ
renamed_events epochs x v = take epochs v ++ map x (take (suc epochs) (drop epochs v)) ++ drop (epochs + suc epochs) v

-- a byte asked of a run: three values, or five, or none
abbrev pub renamed_asked : (ℕ → ℕ) → Reply → Reply
renamed_asked x (Reply.refused number at) = Reply.refused number at
renamed_asked x (Reply.values v) = Reply.values (renamed_events (length v / 2) x v)

-- of a trace, with the sites of the events behind them: five values, or eight, or none
abbrev pub renamed_with_sites : (ℕ → ℕ) → Reply → Reply
renamed_with_sites x (Reply.refused number at) = Reply.refused number at
renamed_with_sites x (Reply.values v) = Reply.values (renamed_events (length v / 3) x v)

-- the trace with the record that has so many before it and the next one exchanged
abbrev pub records_swapped : (before : ℕ) → List ℕ → List ℕ
records_swapped before trace =
    let at = (trailer_of trace).offset + record_size * before in
    take at trace ++ record_after (suc before) trace ++ record_after before trace ++ drop (at + record_size * 2) trace

-- the bytes of a finding: the moment is at 6 and the store at 8
abbrev pub renamed_bytes : (ℕ → ℕ) → List ℕ → List ℕ
renamed_bytes x s = take 6 s ++ u16_bytes (x (u16_at s 6)) ++ u16_bytes (x (u16_at s 8)) ++ drop 10 s

-- so many findings, and the bytes beyond as they were
unfoldable pub renamed_findings : (ℕ → ℕ) → (count : ℕ) → List ℕ → List ℕ
renamed_findings x zero area = area
renamed_findings x (suc count) area = renamed_bytes x (take finding_size area) ++ renamed_findings x count (drop finding_size area)

-- the finding with so many before it
abbrev pub finding_after : (before : ℕ) → List ℕ → List ℕ
finding_after before area = take finding_size (drop (finding_size * before) area)

-- an area of so many findings in which the one with so many before it and the next one are exchanged, and those behind them renamed
abbrev pub findings_swapped : (before count : ℕ) → List ℕ → List ℕ
findings_swapped before count area =
    take (finding_size * before) area ++ finding_after (suc before) area ++ finding_after before area ++
    renamed_findings (exchanged (suc before)) (count - (before + 2)) (drop (finding_size * (before + 2)) area)

-- a finding with its event's number and site: the site stays
abbrev pub renamed_row : (ℕ → ℕ) → Row → Row
renamed_row x row =
    let f = row.fields in
    row_with (x row.event) row.site (fields_with f.kind f.lost f.kept (x f.moment) (x f.store))

-- the findings of such an area that are shown: those before the two as they were, the two at each other's places, and the ones behind
-- them renamed
abbrev pub rows_swapped : (before count : ℕ) → List ℕ → List Row
rows_swapped before count area =
    let x = renamed_row (exchanged (suc before)) in
    rows_from 0 before area ++
    if_shown (x (row_at (suc before) area)) (if_shown (x (row_at before area)) (map x (rows_from (before + 2) (count - (before + 2)) area)))
