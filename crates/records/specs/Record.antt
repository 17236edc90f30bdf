-- The bytes of a record.
use Rattle.std.specs.Prelude.{Bool, cond, not, ◌&&◌, ◌||◌, List, [], ◌∷◌, ◌++◌, ℕ, zero, suc, ◌+◌, leb, eqb, get_or, Ok, Err}
use Rattle.event.specs.declared.Range.{Range}
use Rattle.event.specs.declared.Event.{Event}
use Rattle.event.specs.declared.Event.TheVariants.{Store, WriteBack, Fence, Begin, Log, End, Persisted, Ordered}
use Rattle.event.specs.declared.Record.{Record}
use Rattle.event.specs.declared.Refusal.TheVariants.{UnknownKind, FieldSet}
use Rattle.event.specs.Answers.{Parsed}
use Rattle.event.specs.Numbers.{kind_of}
use Rattle.event.specs.Reply.{Reply, reply_by, refusal_reply}
use Rattle.ranges.specs.Ranges.{ranges_of}
use Rattle.codec.specs.Codec.{u16_at, u16_bytes}

-- a record has 12 bytes
abbrev pub record_size : ℕ
record_size = 12

-- the range at a place: address, length
abbrev pub range_at : List ℕ → ℕ → Range
range_at s at = record { address = u16_at s at; length = u16_at s (at + 2) }

-- kinds are 1 to 8
abbrev pub is_kind : ℕ → Bool
is_kind kind = leb 1 kind && leb kind 8

-- all kinds but fence, begin and end use A
abbrev pub uses_a : ℕ → Bool
uses_a kind = not (eqb kind 3 || eqb kind 4 || eqb kind 6)

-- ordered alone uses B
abbrev pub uses_b : ℕ → Bool
uses_b kind = eqb kind 8

-- both fields of the range are 0
abbrev pub is_zero : Range → Bool
is_zero r = eqb r.address 0 && eqb r.length 0

-- the zero byte and the fields that the kind lacks are 0
abbrev pub is_clear : ℕ → ℕ → Range → Range → Bool
is_clear kind zeroByte a b = eqb zeroByte 0 && (uses_a kind || is_zero a) && (uses_b kind || is_zero b)

-- the event of a kind from 1 to 8
abbrev pub event_of : ℕ → Range → Range → Event
event_of kind a b =
    cond (eqb kind 1) (Store a)
    (cond (eqb kind 2) (WriteBack a)
    (cond (eqb kind 3) Fence
    (cond (eqb kind 4) Begin
    (cond (eqb kind 5) (Log a)
    (cond (eqb kind 6) End
    (cond (eqb kind 7) (Persisted a)
    (Ordered a b)))))))

-- a record: kind u8, zero u8, A address, A length, B address, B length, site, each u16
abbrev pub record_of : List ℕ → Record
record_of s = record { event = event_of (get_or s 0 0) (range_at s 2) (range_at s 6); site = u16_at s 10 }

-- 6: kind not 1 to 8
abbrev pub bad_kind : List ℕ → Bool
bad_kind s = not (is_kind (get_or s 0 0))

-- 7: a zero byte or lacking field set
abbrev pub field_set : List ℕ → Bool
field_set s = not (is_clear (get_or s 0 0) (get_or s 1 0) (range_at s 2) (range_at s 6))

-- the record, or the first of 6 and 7 that applies
abbrev pub parsed : List ℕ → Parsed
parsed s = cond (bad_kind s) (Err UnknownKind) (cond (field_set s) (Err FieldSet) (Ok (record_of s)))

-- the same of the numbers that the bytes hold
abbrev pub parsed_fields : (kind zeroByte : ℕ) (a b : Range) (site : ℕ) → Parsed
parsed_fields kind zeroByte a b site =
    cond (not (is_kind kind)) (Err UnknownKind)
    (cond (not (is_clear kind zeroByte a b)) (Err FieldSet)
    (Ok (record { event = event_of kind a b; site = site })))

-- the first n bytes; bytes past the end count as 0
abbrev pub padded : ℕ → List ℕ → List ℕ
padded zero s = []
padded (suc n) s = padded n s ++ get_or s n 0 ∷ []

-- the bytes of a record
abbrev pub range_bytes : Range → List ℕ
range_bytes r = u16_bytes r.address ++ u16_bytes r.length

abbrev pub fields_bytes : (kind : ℕ) (a b : Range) (site : ℕ) → List ℕ
fields_bytes kind a b site = kind ∷ 0 ∷ range_bytes a ++ range_bytes b ++ u16_bytes site

-- the ranges A and B of an event: fields that its kind lacks are 0
abbrev pub zero_range : Range
zero_range = record { address = 0; length = 0 }

abbrev pub range_a : Event → Range
range_a e = get_or (ranges_of e) 0 zero_range

abbrev pub range_b : Event → Range
range_b e = get_or (ranges_of e) 1 zero_range

-- a record as 12 bytes
abbrev pub record_bytes : Event → ℕ → List ℕ
record_bytes e site = fields_bytes (kind_of e) (range_a e) (range_b e) site

-- a record read by itself: kind, A address, A length, B address, B length, site
abbrev pub range_values : Range → List ℕ
range_values r = r.address ∷ r.length ∷ []

abbrev pub record_values : Record → List ℕ
record_values r = kind_of r.event ∷ range_values (range_a r.event) ++ range_values (range_b r.event) ++ r.site ∷ []

abbrev pub read_reply : Parsed → Reply
read_reply p = reply_by record_values refusal_reply p
