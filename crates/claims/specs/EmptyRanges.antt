-- Request 5: ranges of no bytes. A length of 0 means no byte and no line. What an event with such a range gets, and what it does: for
-- every run whatever, or after every list of given events from the run of every asked line count.
use Rattle.std.specs.Prelude.{◌≡◌, true, false, ◌≢◌, ◌⊎◌, ◌↔◌, ℕ, ◌≤◌, ◌<◌, Ok}
use mathlib.Core.List.{List, [], ◌∷◌, Memᴰ}
use Rattle.event.specs.declared.Range.{Range}
use Rattle.event.specs.declared.Event.TheVariants.{End, Persisted, Ordered}
use Rattle.event.specs.declared.Record.{Record}
use Rattle.event.specs.declared.Finding.TheVariants.{None}
use Rattle.event.specs.declared.Refusal.{Refusal}
use Rattle.event.specs.Numbers.{number_of}
use Rattle.event.specs.Reply.{Reply}
use Rattle.window.specs.Window.{window_bytes}
use Rattle.ranges.specs.Ranges.{covers, touches, ranges_of}
use Rattle.history.specs.History.{History, is, stores, covers_some, stores_byte, stores_some, OfNoBytes}
use Rattle.history.specs.Transaction.{depth, outermost, Since}
use Rattle.history.specs.Refused.{refusal_by}
use Rattle.history.specs.Given.{window_of, Accepted}
use Rattle.tables.specs.Run.{Run}
use Rattle.tables.specs.View.{of_run}
use Rattle.events.specs.Give.{one_event_more, give_of}
use Rattle.engine.specs.Reply.{given_reply}
use Rattle.claims.specs.After.{run_from, taken_from}
use Rattle.claims.specs.Failure.{holds}

pub record EmptyRanges : Type 0 where
  -- a length of 0 means no byte and no line
  pub no_byte : (a : Range) (b : ℕ) → a.length ≡ 0 → covers a b ≡ false
  pub no_line : (a : Range) (l : ℕ) → a.length ≡ 0 → touches a l ≡ false
  -- its address may be anything up to and with the window's size in bytes, and is refused by 9 beyond
  pub up_to_the_size : (asked : ℕ) (given : List Record) (r : Record) (at : ℕ) →
      ((a : Range) → Memᴰ a (ranges_of r.event) → (a.length ≡ 0) × (a.address ≤ window_bytes (window_of asked))) →
      given_reply (give_of (run_from asked given) r) ≢ Reply.refused 9 at
  pub beyond_the_size : (asked : ℕ) (given : List Record) (r : Record) {a : Range} → Memᴰ a (ranges_of r.event) → a.length ≡ 0 →
      window_bytes (window_of asked) < a.address → given_reply (give_of (run_from asked given) r) ≡ Reply.refused 9 0
  -- a store, a write-back and a log of no bytes that no number refuses draw no warning, and leave any run as it was, with one event
  -- more: no interval opens, and no transaction becomes non-empty
  pub nothing_else : (run : Run) (r : Record) → OfNoBytes r.event → refusal_by (of_run run) r.event ≡ (Ok tt) →
      give_of run r ≡ record { answer = Ok None; run = one_event_more run }
  -- an outermost end after no stores but such since its begin is empty; a transaction is not empty exactly if a byte was stored in it
  pub ends : (asked : ℕ) (given : List Record) (r : Record) → let h = taken_from asked given in
      Accepted (window_of asked) h r → r.event ≡ End → depth h ≡ 1 →
      ((i : ℕ) → outermost h < i → is stores h i ≡ true → is covers_some h i ≡ false) →
      given_reply (give_of (run_from asked given) r) ≡ Reply.values (8 ∷ 0 ∷ 0 ∷ 0 ∷ 0 ∷ [])
  pub not_empty : (h : History) → Since h stores_some ↔ ((b : ℕ) × Since h (stores_byte b))
  -- an assertion whose A is empty holds, and so does an order whose B is
  pub persisted : (asked : ℕ) (given : List Record) (r : Record) {a : Range} → Accepted (window_of asked) (taken_from asked given) r →
      r.event ≡ Persisted a → a.length ≡ 0 → given_reply (give_of (run_from asked given) r) ≡ holds
  pub ordered : (asked : ℕ) (given : List Record) (r : Record) {a b : Range} → Accepted (window_of asked) (taken_from asked given) r →
      r.event ≡ Ordered a b → (a.length ≡ 0) ⊎ (b.length ≡ 0) → given_reply (give_of (run_from asked given) r) ≡ holds
  -- 8 is no longer given: no refusal has this number
  pub no_eight : (x : Refusal) → number_of x ≢ 8
