-- A trace is judged as the corpus says.
use Rattle.std.specs.Prelude.{◌≡◌, ℕ, Bool, true, List, replicate}
use Rattle.verdict.specs.Verdict.{area_after}
use Rattle.listing.specs.Report.{report_of}

-- an area of so many bytes before a trace is judged into it: every byte is A5h
abbrev pub area_before : ℕ → List ℕ
area_before n = replicate n 165

-- the area that the trace is judged into holds these bytes after it, and this text is printed for it
abbrev pub Agrees : (trace area after text : List ℕ) → Type 0
Agrees trace area after text = (area_after trace area ≡ after) × (report_of trace area ≡ text)

-- the test passes exactly if the statement is true
abbrev pub Tests : Bool → Type 0 → Type 0
Tests b P = (b ≡ true → P) × (P → b ≡ true)
