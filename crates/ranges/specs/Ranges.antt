-- Ranges of bytes: what a range covers and which lines it touches, whether two share a byte, and the limits 9 and 18.
use Rattle.std.specs.Prelude.{Bool, false, cond, not, ◌&&◌, ◌||◌, List, [], ◌∷◌, ℕ, ◌+◌, ◌-◌, leb, ltb, eqb, Ok, Err}
use Rattle.event.specs.declared.Range.{Range}
use Rattle.event.specs.declared.Event.{Event}
use Rattle.event.specs.declared.Event.TheVariants.{Store, WriteBack, Fence, Begin, Log, End, Persisted, Ordered}
use Rattle.event.specs.declared.Refusal.TheVariants.{PastWindow, SharedByte}
use Rattle.event.specs.Answers.{Check}
use Rattle.window.specs.Window.{window_bytes, line_of}

-- a range ends before the byte at this address
abbrev pub range_end : Range → ℕ
range_end r = r.address + r.length

-- the range covers the byte
abbrev pub covers : Range → ℕ → Bool
covers r byte = leb r.address byte && ltb byte (range_end r)

-- the range has no byte: its length is 0
abbrev pub is_empty : Range → Bool
is_empty r = eqb r.length 0

-- the range touches the line: the line holds one of its bytes
abbrev pub touches : Range → ℕ → Bool
touches r line = not (is_empty r) && leb (line_of r.address) line && leb line (line_of (range_end r - 1))

-- how many lines the range touches, from that of its first byte on
abbrev pub line_count : Range → ℕ
line_count r = cond (is_empty r) 0 (line_of (range_end r - 1) + 1 - line_of r.address)

-- the range runs past the window; one of no bytes, where its address is beyond the window's size in bytes
abbrev pub is_past : ℕ → Range → Bool
is_past lines r = ltb (window_bytes lines) (range_end r)

-- the ranges that an event uses
abbrev pub ranges_of : Event → List Range
ranges_of (Store a) = a ∷ []
ranges_of (WriteBack a) = a ∷ []
ranges_of Fence = []
ranges_of Begin = []
ranges_of (Log a) = a ∷ []
ranges_of End = []
ranges_of (Persisted a) = a ∷ []
ranges_of (Ordered a b) = a ∷ b ∷ []

-- the test passes at one of the ranges
abbrev pub any_range : (Range → Bool) → List Range → Bool
any_range p [] = false
any_range p (r ∷ rs) = p r || any_range p rs

-- two ranges share a byte: neither is empty, and each starts before the end of the other
abbrev pub shares_byte : Range → Range → Bool
shares_byte a b = not (is_empty a) && not (is_empty b) && ltb a.address (range_end b) && ltb b.address (range_end a)

-- the event is an ordered whose A and B share a byte
abbrev pub ranges_share : Event → Bool
ranges_share (Store a) = false
ranges_share (WriteBack a) = false
ranges_share Fence = false
ranges_share Begin = false
ranges_share (Log a) = false
ranges_share End = false
ranges_share (Persisted a) = false
ranges_share (Ordered a b) = shares_byte a b

-- 9: a used range runs past the window; then 18: A and B share a byte
abbrev pub range_check : ℕ → Event → Check
range_check lines e = cond (any_range (is_past lines) (ranges_of e)) (Err PastWindow) (cond (ranges_share e) (Err SharedByte) (Ok tt))
