-- Events given one after another, refused ones among them: the accepted part, the answers, and the claim over the whole list.
use Rattle.std.specs.Prelude.{cond, List, [], ◌∷◌, ℕ, ◌+◌, Ok, Err}
use Rattle.event.specs.declared.Record.{Record}
use Rattle.event.specs.declared.Finding.{Finding}
use Rattle.event.specs.declared.Refusal.{Refusal}
use Rattle.event.specs.Answers.{Check, Answer}
use Rattle.event.specs.Numbers.{is_none, number_of}
use Rattle.event.specs.Reply.{Reply, finding_values}
use Rattle.window.specs.Window.{lines_check}
use Rattle.history.specs.History.{History}
use Rattle.history.specs.View.{of_history}
use Rattle.history.specs.Refused.{limits_by, First, NoneBroken, refusal_by}
use Rattle.history.specs.Found.{finding_by}
use Rattle.history.specs.Claim.{Claim}

-- the lines of the run that a fresh window asked with this line count hands over: one line where it is refused
abbrev pub window_for : Check → ℕ → ℕ
window_for (Ok _) asked = asked
window_for (Err x) asked = 1

-- the lines of the window
abbrev pub window_of : ℕ → ℕ
window_of asked = window_for (lines_check asked) asked

-- the refusal, or the finding where the check of the limits passed
abbrev pub answer_for : Check → Finding → Answer
answer_for (Ok _) f = Ok f
answer_for (Err x) f = Err x

-- after the history the event is refused by this number, or by none
abbrev pub RefusedBy : ℕ → History → Record → Refusal → Type 0
RefusedBy lines h r x = First (limits_by (of_history lines h) r.event) x

abbrev pub Accepted : ℕ → History → Record → Type 0
Accepted lines h r = NoneBroken (limits_by (of_history lines h) r.event)

-- what an event gets after the history: its refusal or its finding
unfoldable pub answer_of : ℕ → History → Record → Answer
answer_of lines h r = answer_for (refusal_by (of_history lines h) r.event) (finding_by (of_history lines h) r.event)

-- the history goes on with an event that has a finding, and stays as it was at a refused one
abbrev pub after : Answer → Record → History → History
after (Err x) r h = h
after (Ok f) r h = r ∷ h

-- the accepted part of the events given after the history
unfoldable pub accepted : ℕ → History → List Record → History
accepted lines h [] = h
accepted lines h (r ∷ given) = accepted lines (after (answer_of lines h r) r h) given

-- the answers to them
unfoldable pub answers : ℕ → History → List Record → List Answer
answers lines h [] = []
answers lines h (r ∷ given) = answer_of lines h r ∷ answers lines (after (answer_of lines h r) r h) given

-- one for a finding other than none
abbrev pub counts : Answer → ℕ
counts (Err x) = 0
counts (Ok f) = cond (is_none f) 0 1

-- how many findings other than none there are among the answers
unfoldable pub reported : List Answer → ℕ
reported [] = 0
reported (a ∷ rest) = counts a + reported rest

-- the single claim over the whole list of events and what each gets: it is refused by the first number that applies, and the history
-- is then as it was; or no number applies, and the claim of the finding that it gets is true
pub data ClaimRun (lines : ℕ) : History → List Record → List Reply → Type 0 where
  done : {h : History} → ClaimRun lines h [] []
  refuses : {h : History} {r : Record} {given : List Record} {x : Refusal} {rest : List Reply} →
      RefusedBy lines h r x →
      ClaimRun lines h given rest → ClaimRun lines h (r ∷ given) (Reply.refused (number_of x) 0 ∷ rest)
  takes : {h : History} {r : Record} {given : List Record} {rest : List Reply} (f : Finding) →
      Accepted lines h r → Claim h r f →
      ClaimRun lines (r ∷ h) given rest → ClaimRun lines h (r ∷ given) (Reply.values (finding_values f) ∷ rest)
