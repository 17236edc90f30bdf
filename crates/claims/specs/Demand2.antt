-- Demand 2: every byte's persist interval, every transaction finding and every warning is the one that the paper defines over the
-- accepted events so far.
use Rattle.std.specs.Prelude.{◌≡◌, List, [], ◌∷◌, map, ℕ, ◌<◌}
use Rattle.event.specs.declared.Record.{Record}
use Rattle.event.specs.declared.Finding.{Finding}
use Rattle.event.specs.declared.Finding.TheVariants.{None, Holds, Lost, OutOfOrder, Unlogged, Clean, WrittenTwice, LoggedTwice, Empty}
use Rattle.event.specs.Reply.{Reply, finding_values, named_values}
use Rattle.window.specs.Window.{window_bytes}
use Rattle.history.specs.History.{History}
use Rattle.history.specs.Interval.{interval_of, named_of}
use Rattle.history.specs.Claim.{Claim}
use Rattle.history.specs.Given.{window_of}
use Rattle.events.specs.Give.{give_of}
use Rattle.engine.specs.Call.{ask_of}
use Rattle.engine.specs.Reply.{given_reply, asked_reply}
use Rattle.engine.specs.Tracks.{Tracks}
use Rattle.claims.specs.After.{run_from, taken_from}
use Rattle.claims.specs.Paper.{status}

pub record Demand2 : Type 0 where
  -- each number and each table entry of the run
  pub tables : (asked : ℕ) (given : List Record) → Tracks (window_of asked) (taken_from asked given) (run_from asked given)
  -- the interval of every byte of the window, as it is answered: its epochs, and then the events of the last store, of the first write-back
  -- of its line after it, and of the fence
  pub intervals : (asked : ℕ) (given : List Record) (byte : ℕ) → byte < window_bytes (window_of asked) →
      asked_reply (ask_of (run_from asked given) byte) ≡ Reply.values (named_values (named_of (taken_from asked given) byte))
  -- the finding of every event, as it is answered
  pub findings : (asked : ℕ) (given : List Record) (r : Record) (answer : List ℕ) →
      given_reply (give_of (run_from asked given) r) ≡ Reply.values answer →
      (f : Finding) × (answer ≡ finding_values f) × Claim (taken_from asked given) r f
  -- the kinds of finding with their fields, as document 01 numbers them: kind, lost, kept, moment, store
  pub kinds : (lost kept moment store : ℕ) →
      map finding_values
      (None ∷ Holds ∷ Lost lost moment store ∷ OutOfOrder lost kept moment store ∷ Unlogged lost ∷ Clean lost ∷ WrittenTwice lost ∷
      LoggedTwice lost ∷ Empty ∷ []) ≡
      (0 ∷ 0 ∷ 0 ∷ 0 ∷ 0 ∷ []) ∷
      (1 ∷ 0 ∷ 0 ∷ 0 ∷ 0 ∷ []) ∷
      (2 ∷ lost ∷ 0 ∷ moment ∷ store ∷ []) ∷
      (3 ∷ lost ∷ kept ∷ moment ∷ store ∷ []) ∷
      (4 ∷ lost ∷ 0 ∷ 0 ∷ 0 ∷ []) ∷
      (5 ∷ lost ∷ 0 ∷ 0 ∷ 0 ∷ []) ∷
      (6 ∷ lost ∷ 0 ∷ 0 ∷ 0 ∷ []) ∷
      (7 ∷ lost ∷ 0 ∷ 0 ∷ 0 ∷ []) ∷
      (8 ∷ 0 ∷ 0 ∷ 0 ∷ 0 ∷ []) ∷
      []
  -- the rules of paper 000 give the same interval, after every list of events
  pub paper : (byte : ℕ) (h : History) → (status byte h).persist ≡ interval_of h byte
