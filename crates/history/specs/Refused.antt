-- What refuses an event, read off the window's lines, the events taken and the transactions open: the first number that applies.
use Rattle.std.specs.Prelude.{◌≡◌, Bool, true, false, cond, ◌&&◌, ◌||◌, List, [], ◌∷◌, map, ℕ, leb, eqb, Ok, Err}
use Rattle.event.specs.declared.Event.{Event}
use Rattle.event.specs.declared.Refusal.{Refusal}
use Rattle.event.specs.declared.Refusal.TheVariants.{PastWindow, SharedByte, EventsExhausted, NoTransaction, TooDeep}
use Rattle.event.specs.Answers.{Check}
use Rattle.event.specs.Numbers.{number_of}
use Rattle.ranges.specs.Ranges.{is_past, ranges_of, any_range, ranges_share}
use Rattle.history.specs.History.{begins, logs, ends}
use Rattle.history.specs.View.{View}

-- event numbers and the moments, stores and epochs that name them have 16 bits
abbrev pub most_events : ℕ
most_events = 65535

-- transactions nest to this depth
abbrev pub most_depth : ℕ
most_depth = 8

-- log and end ask for an open transaction
abbrev pub asks_open : Event → Bool
asks_open e = logs e || ends e

-- a limit: whether it is broken, and its number
pub record Limit : Type 0 where
  pub broken : Bool
  pub number : Refusal

abbrev pub limit : Bool → Refusal → Limit
limit broken number = record { broken = broken; number = number }

-- the limits on an event, in order
abbrev pub limits_by : View → Event → List Limit
limits_by v e =
    limit (any_range (is_past v.lines) (ranges_of e)) PastWindow ∷  -- 9 a used range runs past the window
    limit (ranges_share e) SharedByte ∷  -- 18 A and B share a byte
    limit (leb most_events v.events) EventsExhausted ∷  -- 10 65,535 events already taken
    limit (asks_open e && eqb v.depth 0) NoTransaction ∷  -- 11 log or end with no transaction open
    limit (begins e && leb most_depth v.depth) TooDeep ∷  -- 12 begin at depth 8
    []

-- the paper's numbers of limits, in their order
abbrev pub limit_numbers : List Limit → List ℕ
limit_numbers limits = map (λ (x : Limit). number_of x.number) limits

-- a number applies first: its limit is broken, and none before it is
pub data First : List Limit → Refusal → Type 0 where
  here : {x : Limit} {xs : List Limit} → x.broken ≡ true → First (x ∷ xs) x.number
  later : {x : Limit} {xs : List Limit} {number : Refusal} → x.broken ≡ false → First xs number → First (x ∷ xs) number

-- no number applies
pub data NoneBroken : List Limit → Type 0 where
  nil : NoneBroken []
  cons : {x : Limit} {xs : List Limit} → x.broken ≡ false → NoneBroken xs → NoneBroken (x ∷ xs)

-- the first that is broken
abbrev pub first_broken : List Limit → Check
first_broken [] = Ok tt
first_broken (x ∷ xs) = cond x.broken (Err x.number) (first_broken xs)

-- what refuses an event, if anything does
unfoldable pub refusal_by : View → Event → Check
refusal_by v e = first_broken (limits_by v e)
