-- The paper's numbers: the kind of an event, the kind and the fields of a finding, the number of a refusal.
use Rattle.std.specs.Prelude.{Bool, ℕ, eqb}
use Rattle.event.specs.declared.Event.{Event}
use Rattle.event.specs.declared.Event.TheVariants.{Store, WriteBack, Fence, Begin, Log, End, Persisted, Ordered}
use Rattle.event.specs.declared.Finding.{Finding}
use Rattle.event.specs.declared.Finding.TheVariants.{None, Holds, Lost, OutOfOrder, Unlogged, Clean, WrittenTwice, LoggedTwice, Empty}
use Rattle.event.specs.declared.Fields.{Fields}
use Rattle.event.specs.declared.Refusal.{Refusal}
use Rattle.event.specs.declared.Refusal.TheVariants.{TraceTooShort, TraceTooLong, MarkDiffers, BadLines, LengthDiffers, UnknownKind, FieldSet, PastWindow, EventsExhausted, NoTransaction, TooDeep, TransactionOpen, AreaTooShort, FileAreaTooShort, PageAreaTooShort, NoByteClosed, SharedByte}

abbrev pub kind_of : Event → ℕ
kind_of (Store a) = 1
kind_of (WriteBack a) = 2
kind_of Fence = 3
kind_of Begin = 4
kind_of (Log a) = 5
kind_of End = 6
kind_of (Persisted a) = 7
kind_of (Ordered a b) = 8

-- kind, lost, kept, moment, store
abbrev pub fields_with : ℕ → ℕ → ℕ → ℕ → ℕ → Fields
fields_with kind lost kept moment store = record { kind = kind; lost = lost; kept = kept; moment = moment; store = store }

-- fields not mentioned are 0
abbrev pub fields_of : Finding → Fields
fields_of None = fields_with 0 0 0 0 0
fields_of Holds = fields_with 1 0 0 0 0
fields_of (Lost lost moment store) = fields_with 2 lost 0 moment store
fields_of (OutOfOrder lost kept moment store) = fields_with 3 lost kept moment store
fields_of (Unlogged lost) = fields_with 4 lost 0 0 0
fields_of (Clean lost) = fields_with 5 lost 0 0 0
fields_of (WrittenTwice lost) = fields_with 6 lost 0 0 0
fields_of (LoggedTwice lost) = fields_with 7 lost 0 0 0
fields_of Empty = fields_with 8 0 0 0 0

-- the finding is "none"
abbrev pub is_none : Finding → Bool
is_none f = eqb (fields_of f).kind 0

abbrev pub number_of : Refusal → ℕ
number_of TraceTooShort = 1
number_of TraceTooLong = 2
number_of MarkDiffers = 3
number_of BadLines = 4
number_of LengthDiffers = 5
number_of UnknownKind = 6
number_of FieldSet = 7
number_of PastWindow = 9
number_of EventsExhausted = 10
number_of NoTransaction = 11
number_of TooDeep = 12
number_of TransactionOpen = 13
number_of AreaTooShort = 14
number_of FileAreaTooShort = 15
number_of PageAreaTooShort = 16
number_of NoByteClosed = 17
number_of SharedByte = 18
