-- The kinds of event, by their numbers.
use Rattle.std.specs.Prelude.{◌≡◌, false, ℕ, Result, MatchResult}
use Rattle.event.specs.declared.Refusal.{Refusal}
use Rattle.event.specs.declared.Refusal.TheVariants.{UnknownKind}
use Rattle.records.specs.declared.Kind.{Kind}
use Rattle.records.specs.declared.Kind.TheVariants.{Store, WriteBack, Fence, Begin, Log, End, Persisted, Ordered}
use Rattle.records.specs.Record.{is_kind}

-- the number of a kind
abbrev pub kind_number : Kind → ℕ
kind_number Store = 1
kind_number WriteBack = 2
kind_number Fence = 3
kind_number Begin = 4
kind_number Log = 5
kind_number End = 6
kind_number Persisted = 7
kind_number Ordered = 8

-- the kind with this number, or the refusal 6 where no kind has it
abbrev pub Decodes : ℕ → Result Kind Refusal → Type 0
Decodes n r = MatchResult r (λ kind. kind_number kind ≡ n) (λ e. (e ≡ UnknownKind) × (is_kind n ≡ false))
