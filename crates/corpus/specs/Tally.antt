-- Answers and findings, counted by their numbers.
use Rattle.std.specs.Prelude.{ℕ, zero, suc, ◌+◌, ◌*◌, ◌%◌, List, slice_index, slice_set, Ok, Err}
use Rattle.event.specs.Reply.{Reply}
use Rattle.verdict.specs.Answers.{Verdict}
use Rattle.codec.specs.Codec.{finding_size}
use Rattle.event.specs.Answers.{totals}

-- one more at a place; 32 bits wrap
abbrev pub counted : ℕ → List ℕ → List ℕ
counted i counts = slice_set counts i ((slice_index counts i + 1) % 4294967296)

-- an answer counts at the refusal's number, or at 0 where the trace is accepted
abbrev pub place_of : Reply → ℕ
place_of (Reply.refused number at) = number
place_of (Reply.values totals) = 0

-- so many findings of an area after the first ones, each at its kind
unfoldable pub kinds_from : (before count : ℕ) → (area counts : List ℕ) → List ℕ
kinds_from before zero area counts = counts
kinds_from before (suc count) area counts = kinds_from (suc before) count area (counted (slice_index area (finding_size * before)) counts)

-- those of an accepted trace; a refused one has none
abbrev pub kinds_in : Verdict → (area counts : List ℕ) → List ℕ
kinds_in (Err r) area counts = counts
kinds_in (Ok t) area counts = kinds_from 0 t.events area counts
