-- The list of accepted events, the newest first, and the number of each.
use Rattle.std.specs.Prelude.{◌≡◌, Bool, false, cond, not, ◌&&◌, List, [], ◌∷◌, ℕ, suc, eqb, length}
use Rattle.event.specs.declared.Range.{Range}
use Rattle.event.specs.declared.Event.{Event}
use Rattle.event.specs.declared.Event.TheVariants.{Store, WriteBack, Log}
use Rattle.event.specs.declared.Record.{Record}
use Rattle.event.specs.Numbers.{kind_of}
use Rattle.ranges.specs.Ranges.{covers, is_empty, touches, ranges_of, any_range}

abbrev pub History : Type 0
History = List Record

-- accepted events are numbered from 1: whether event number i is one that the test passes
unfoldable pub is : (Event → Bool) → History → ℕ → Bool
is p [] i = false
is p (r ∷ h) i = cond (eqb i (suc (length h))) (p r.event) (is p h i)

-- the kinds by their numbers
abbrev pub stores : Event → Bool
stores e = eqb (kind_of e) 1

abbrev pub writes_back : Event → Bool
writes_back e = eqb (kind_of e) 2

abbrev pub fences : Event → Bool
fences e = eqb (kind_of e) 3

abbrev pub begins : Event → Bool
begins e = eqb (kind_of e) 4

abbrev pub logs : Event → Bool
logs e = eqb (kind_of e) 5

abbrev pub ends : Event → Bool
ends e = eqb (kind_of e) 6

-- a range of the event covers the byte, or touches the line
abbrev pub covers_byte : ℕ → Event → Bool
covers_byte b e = any_range (λ a. covers a b) (ranges_of e)

abbrev pub touches_line : ℕ → Event → Bool
touches_line l e = any_range (λ a. touches a l) (ranges_of e)

-- a range of the event has a byte
abbrev pub covers_some : Event → Bool
covers_some e = any_range (λ a. not (is_empty a)) (ranges_of e)

-- a store covering the byte
abbrev pub stores_byte : ℕ → Event → Bool
stores_byte b e = stores e && covers_byte b e

-- a store of some byte
abbrev pub stores_some : Event → Bool
stores_some e = stores e && covers_some e

-- a store with a piece on the line
abbrev pub stores_line : ℕ → Event → Bool
stores_line l e = stores e && touches_line l e

-- a write-back of the line
abbrev pub writes_back_line : ℕ → Event → Bool
writes_back_line l e = writes_back e && touches_line l e

-- a log of the byte
abbrev pub logs_byte : ℕ → Event → Bool
logs_byte b e = logs e && covers_byte b e

-- a store, a write-back or a log of a range of no bytes
pub data OfNoBytes : Event → Type 0 where
  store : {a : Range} → a.length ≡ 0 → OfNoBytes (Store a)
  write_back : {a : Range} → a.length ≡ 0 → OfNoBytes (WriteBack a)
  log : {a : Range} → a.length ≡ 0 → OfNoBytes (Log a)
