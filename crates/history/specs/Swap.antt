-- Request 13: neighbours that may change places, and what names the other number where they do.
use Rattle.std.specs.Prelude.{◌≡◌, true, cond, ◌||◌, List, [], ◌∷◌, ◌++◌, ℕ, suc, eqb, Ok, Err}
use Rattle.event.specs.declared.Event.{Event}
use Rattle.event.specs.declared.Record.{Record}
use Rattle.event.specs.declared.Refusal.{Refusal}
use Rattle.event.specs.declared.Finding.{Finding}
use Rattle.event.specs.declared.Finding.TheVariants.{None, Holds, Lost, OutOfOrder, Unlogged, Clean, WrittenTwice, LoggedTwice, Empty}
use Rattle.event.specs.declared.NamedInterval.{NamedInterval}
use Rattle.event.specs.declared.NamedInterval.TheVariants.{None as NoneNamed, Open as OpenNamed, Closed as ClosedNamed}
use Rattle.event.specs.Answers.{Answer}
use Rattle.history.specs.History.{History, stores, writes_back, touches_line}
use Rattle.history.specs.Given.{RefusedBy, Accepted}

-- two events that may change places: "each a store or a write-back, and the lines they touch have none in common"
pub record MaySwap (a b : Event) : Type 0 where
  pub first : stores a || writes_back a ≡ true
  pub second : stores b || writes_back b ≡ true
  pub apart : (l : ℕ) → touches_line l a ≡ true → touches_line l b ≡ true → ⊥

-- all these events, given after the history, are refused
pub data AllRefused (lines : ℕ) (h : History) : List Record → Type 0 where
  nil : AllRefused lines h []
  cons : {r : Record} {rest : List Record} {x : Refusal} → RefusedBy lines h r x → AllRefused lines h rest → AllRefused lines h (r ∷ rest)

-- neighbours that may change places: a, given after the history, and b are accepted, and what is given between them is refused, so
-- that their numbers follow each other
pub record Neighbours (lines : ℕ) (h : History) (a : Record) (between : List Record) (b : Record) : Type 0 where
  pub may : MaySwap a.event b.event
  pub first : Accepted lines h a
  pub refused : AllRefused lines (a ∷ h) between
  pub second : Accepted lines (a ∷ h) b

-- a list with a and b at their places, which exchanging them exchanges
abbrev pub in_turn : {A : Type 0} → List A → A → List A → A → List A → List A
in_turn before a between b later = before ++ (a ∷ (between ++ (b ∷ later)))

-- number i and the next one exchanged
unfoldable pub exchanged : ℕ → ℕ → ℕ
exchanged i n = cond (eqb n i) (suc i) (cond (eqb n (suc i)) i n)

-- a finding with its moment and its store renamed; bytes are not
abbrev pub renamed : (ℕ → ℕ) → Finding → Finding
renamed x None = None
renamed x Holds = Holds
renamed x (Lost lost moment store) = Lost lost (x moment) (x store)
renamed x (OutOfOrder lost kept moment store) = OutOfOrder lost kept (x moment) (x store)
renamed x (Unlogged lost) = Unlogged lost
renamed x (Clean lost) = Clean lost
renamed x (WrittenTwice lost) = WrittenTwice lost
renamed x (LoggedTwice lost) = LoggedTwice lost
renamed x Empty = Empty

-- what an event gets: a refusal names no event
abbrev pub renamed_answer : (ℕ → ℕ) → Answer → Answer
renamed_answer x (Err number) = Err number
renamed_answer x (Ok f) = Ok (renamed x f)

-- an interval's answer with its events renamed; both epochs are as they were
abbrev pub renamed_interval : (ℕ → ℕ) → NamedInterval → NamedInterval
renamed_interval x NoneNamed = NoneNamed
renamed_interval x (OpenNamed opened store back) = OpenNamed opened (x store) (x back)
renamed_interval x (ClosedNamed opened closed store back fence) = ClosedNamed opened closed (x store) (x back) (x fence)
