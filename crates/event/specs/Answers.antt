-- What an answer is: a value, or a refusal.
use Rattle.std.specs.Prelude.{ℕ, Result, Err, Ok, ⊤}
use Rattle.event.specs.declared.Finding.{Finding}
use Rattle.event.specs.declared.Record.{Record}
use Rattle.event.specs.declared.Refusal.{Refusal}
use Rattle.event.specs.declared.Totals.{Totals}
use Rattle.event.specs.declared.TraceRefusal.{TraceRefusal}

-- what a check of the limits says
abbrev pub Check : Type 0
Check = Result ⊤ Refusal

-- no limit is broken
abbrev pub passed : {E : Type 0} → Result ⊤ E
passed = Ok tt

-- what an event that is given gets: its finding, or a refusal
abbrev pub Answer : Type 0
Answer = Result Finding Refusal

-- what reading a record finds
abbrev pub Parsed : Type 0
Parsed = Result Record Refusal

-- a refusal, and the number of the record that it is about, from 1, or 0
abbrev pub about : Refusal → ℕ → TraceRefusal
about x n = record { refusal = x; at = n }

-- a trace is refused
abbrev pub refused_at : {T : Type 0} → Refusal → ℕ → Result T TraceRefusal
refused_at x n = Err (about x n)

-- the totals, where nothing is refused
abbrev pub totals : {E : Type 0} → (events fences findings : ℕ) → Result Totals E
totals events fences findings = Ok (record { events = events; fences = fences; findings = findings })
