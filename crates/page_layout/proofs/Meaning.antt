-- The page of document 01's whole run, and that of no findings.
use mathlib.Core.Path.{◌≡◌, refl}
use mathlib.Core.List.{[], ◌++◌}
use Rattle.event.specs.declared.Finding.TheVariants.{None, Holds, Lost, OutOfOrder, WrittenTwice}
use Rattle.codec.specs.Codec.{finding_bytes}
use Rattle.text.specs.Text.{ascii, decimal_in}
use Rattle.finding_lines.specs.Rows.{rows_from}
use Rattle.page_lines.specs.Lines.{values, columns, heading, row_line, foot}
use Rattle.page_layout.specs.Pages.{row_lines, page, pages_from, pages_of}

pub whole_run_lem : pages_of (
    finding_bytes None 10 ++ finding_bytes None 11 ++ finding_bytes None 12 ++ finding_bytes None 13 ++ finding_bytes (OutOfOrder 0 64 2 1) 14 ++
    finding_bytes (Lost 64 6 2) 15 ++ finding_bytes (WrittenTwice 0) 16 ++ finding_bytes None 17 ++ finding_bytes Holds 18) ≡
    ascii " event       site  finding          lost   kept moment  store\n" ++
    ascii "     5         14  out-of-order        0     64      2      1\n" ++
    ascii "     6         15  lost               64      0      6      2\n" ++
    ascii "     7         16  written-twice       0      0      0      0\n" ++
    ascii "     9         18  holds               0      0      0      0\n" ++
    ascii "page 1 of 1                                                  \n"
unfolding decimal_in rows_from values columns heading row_line foot row_lines page pages_from pages_of
whole_run_lem = refl

pub nothing_shown : pages_of [] ≡
    ascii " event       site  finding          lost   kept moment  store\n" ++
    ascii "page 1 of 1                                                  \n"
unfolding decimal_in rows_from values columns heading row_line foot row_lines page pages_from pages_of
nothing_shown = refl
