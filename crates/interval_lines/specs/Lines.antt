-- The lines of a byte's persist interval: its epochs and its events, and the site of each event named.
use Rattle.std.specs.Prelude.{List, [], ◌++◌, ℕ}
use Rattle.event.specs.declared.NamedInterval.{NamedInterval}
use Rattle.event.specs.declared.NamedInterval.TheVariants.{None, Open, Closed}
use Rattle.history.specs.Count.{if_some}
use Rattle.text.specs.Text.{ascii, decimal}
use Rattle.trace_interval.specs.declared.Sites.{Sites}

-- the epochs, and then the events: a write-back of 0 where there is none yet
unfoldable pub open_line : (opened store back : ℕ) → List ℕ
open_line opened store back = ascii "open " ++ decimal opened ++ ascii " store " ++ decimal store ++ ascii " write-back " ++ decimal back ++ ascii "\n"

unfoldable pub closed_line : (opened closed store back fence : ℕ) → List ℕ
closed_line opened closed store back fence =
    ascii "closed " ++ decimal opened ++ ascii " " ++ decimal closed ++ ascii " store " ++ decimal store ++ ascii " write-back " ++ decimal back ++
    ascii " fence " ++ decimal fence ++ ascii "\n"

-- the site of an event; no line where no event is named
unfoldable pub site_line : (event site : ℕ) → List ℕ
site_line event site = if_some event [] (λ n. ascii "event " ++ decimal n ++ ascii " site " ++ decimal site ++ ascii "\n")

abbrev pub site_lines : (store back fence : ℕ) → Sites → List ℕ
site_lines store back fence s = site_line store s.store ++ site_line back s.back ++ site_line fence s.fence

-- the rest of the byte's line, and the lines of the sites
abbrev pub interval_text : NamedInterval → Sites → List ℕ
interval_text None s = ascii "none\n"
interval_text (Open opened store back) s = open_line opened store back ++ site_lines store back 0 s
interval_text (Closed opened closed store back fence) s = closed_line opened closed store back fence ++ site_lines store back fence s
