-- The finding lines of document 01's whole run, the line of a byte logged twice, and the finding none, which has no line.
use mathlib.Core.Path.{◌≡◌, refl}
use mathlib.Core.List.{[]}
use Rattle.event.specs.declared.Finding.TheVariants.{None, Holds, Lost, OutOfOrder, WrittenTwice, LoggedTwice}
use Rattle.event.specs.Numbers.{fields_of}
use Rattle.text.specs.Text.{ascii, decimal_in}
use Rattle.finding_lines.specs.Lines.{field, values, columns, finding_line}

pub worked_lines :
    (finding_line 5 14 (fields_of (OutOfOrder 0 64 2 1)) ≡ ascii "5 14 out-of-order 0 64 2 1\n") ×
    (finding_line 6 15 (fields_of (Lost 64 6 2)) ≡ ascii "6 15 lost 64 0 6 2\n") ×
    (finding_line 7 16 (fields_of (WrittenTwice 0)) ≡ ascii "7 16 written-twice 0 0 0 0\n") ×
    (finding_line 8 17 (fields_of None) ≡ []) ×
    (finding_line 9 18 (fields_of Holds) ≡ ascii "9 18 holds 0 0 0 0\n") ×
    (finding_line 10 19 (fields_of (LoggedTwice 72)) ≡ ascii "10 19 logged-twice 72 0 0 0\n")
unfolding decimal_in field values columns finding_line
worked_lines = (refl, refl, refl, refl, refl, refl)
