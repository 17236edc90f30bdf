-- The claim of an event's finding, over the list of accepted events alone: h before the event, and now with it as number n.
use Rattle.std.specs.Prelude.{◌≡◌, true, ◌≢◌, ◌∷◌, ℕ, suc, length}
use Rattle.event.specs.declared.Event.{Event}
use Rattle.event.specs.declared.Event.TheVariants.{Store, WriteBack, Fence, Begin, Log, End, Persisted, Ordered}
use Rattle.event.specs.declared.Record.{Record}
use Rattle.event.specs.declared.Finding.{Finding}
use Rattle.event.specs.declared.Finding.TheVariants.{None, Unlogged, LoggedTwice, Empty}
use Rattle.ranges.specs.Ranges.{covers}
use Rattle.history.specs.History.{History, stores_byte, stores_some}
use Rattle.history.specs.Transaction.{depth, Since}
use Rattle.history.specs.Assertion.{Persists, Orders}
use Rattle.history.specs.Warning.{Warned, UnloggedByte, LoggedByte, WrittenBack}

-- an inner end has no finding; an outermost one with no store of some byte since its begin is empty; any other outermost end is
-- judged as a persisted over just the bytes stored since its begin would be
pub data Ended (h now : History) (n : ℕ) : Finding → Type 0 where
  inner : depth h ≢ 1 → Ended h now n None
  empty : depth h ≡ 1 → (Since h stores_some → ⊥) → Ended h now n Empty
  outermost : {f : Finding} → depth h ≡ 1 → Since h stores_some → Persists now n (λ b. Since h (stores_byte b)) f → Ended h now n f

abbrev pub ClaimOf : History → History → ℕ → Event → Finding → Type 0
ClaimOf h now n (Store a) f = Warned (UnloggedByte h a) Unlogged f
ClaimOf h now n (WriteBack a) f = WrittenBack h a f
ClaimOf h now n Fence f = f ≡ None
ClaimOf h now n Begin f = f ≡ None
ClaimOf h now n (Log a) f = Warned (LoggedByte h a) LoggedTwice f
ClaimOf h now n End f = Ended h now n f
ClaimOf h now n (Persisted a) f = Persists now n (λ b. covers a b ≡ true) f
ClaimOf h now n (Ordered a b) f = Orders now n a b f

-- the claim of the finding of the event that follows the history h
abbrev pub Claim : History → Record → Finding → Type 0
Claim h r f = ClaimOf h (r ∷ h) (suc (length h)) r.event f
