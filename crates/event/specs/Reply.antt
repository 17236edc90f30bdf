-- An answer in the paper's numbers. "A refusal returns its number and the record's number from 1 (0 for trailer, area, closing, a
-- fresh window, an asked byte and an event given singly)"; any other answer has its values, in the paper's order.
use Rattle.std.specs.Prelude.{List, [], ◌∷◌, ℕ, Result, Ok, Err}
use Rattle.event.specs.declared.Finding.{Finding}
use Rattle.event.specs.declared.Interval.{Interval}
use Rattle.event.specs.declared.Interval.TheVariants.{None, Open, Closed}
use Rattle.event.specs.declared.NamedInterval.{NamedInterval}
use Rattle.event.specs.declared.NamedInterval.TheVariants.{None as NoneNamed, Open as OpenNamed, Closed as ClosedNamed}
use Rattle.event.specs.declared.Refusal.{Refusal}
use Rattle.event.specs.declared.Totals.{Totals}
use Rattle.event.specs.declared.TraceRefusal.{TraceRefusal}
use Rattle.event.specs.Answers.{Check, Answer}
use Rattle.event.specs.Numbers.{fields_of, number_of}

pub data Reply : Type 0 where
  refused : (number at : ℕ) → Reply
  values : List ℕ → Reply

-- the values of what is answered, or the refusal
abbrev pub reply_by : {T E : Type 0} → (T → List ℕ) → (E → Reply) → Result T E → Reply
reply_by f g (Ok x) = Reply.values (f x)
reply_by f g (Err y) = g y

-- a refusal that names no record, and one of a trace
abbrev pub refusal_reply : Refusal → Reply
refusal_reply x = Reply.refused (number_of x) 0

abbrev pub trace_refusal_reply : TraceRefusal → Reply
trace_refusal_reply r = Reply.refused (number_of r.refusal) r.at

-- what has no values
abbrev pub no_values : {T : Type 0} → T → List ℕ
no_values x = []

-- a check of limits: it has no values
abbrev pub check_reply : Check → Reply
check_reply c = reply_by no_values refusal_reply c

-- a finding: kind, lost, kept, moment, store
abbrev pub finding_values : Finding → List ℕ
finding_values f = let x = fields_of f in x.kind ∷ x.lost ∷ x.kept ∷ x.moment ∷ x.store ∷ []

-- an event given singly
abbrev pub answer_reply : Answer → Reply
answer_reply a = reply_by finding_values refusal_reply a

-- a run or a trace: events, fences and the count of findings other than none
abbrev pub totals_values : Totals → List ℕ
totals_values t = t.events ∷ t.fences ∷ t.findings ∷ []

-- an interval: nothing, the epoch since which it is open, or the epochs at which it opened and closed
abbrev pub interval_values : Interval → List ℕ
interval_values None = []
interval_values (Open e) = e ∷ []
interval_values (Closed e f) = e ∷ f ∷ []

-- a byte asked: the epochs of its interval, and then the events of the last store, of the first write-back after it and of the fence
abbrev pub named_values : NamedInterval → List ℕ
named_values NoneNamed = []
named_values (OpenNamed opened store back) = opened ∷ store ∷ back ∷ []
named_values (ClosedNamed opened closed store back fence) = opened ∷ closed ∷ store ∷ back ∷ fence ∷ []

-- the interval with its events dropped
abbrev pub without_events : NamedInterval → Interval
without_events NoneNamed = None
without_events (OpenNamed opened store back) = Open opened
without_events (ClosedNamed opened closed store back fence) = Closed opened closed
