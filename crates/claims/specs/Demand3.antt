-- Demand 3: the single claim over the whole list of given events. "Holds" is said exactly when no allowed crash image breaks the
-- assertion, and a failure names a real crash image, the first by address.
use Rattle.std.specs.Prelude.{◌≡◌, true, ◌⊎◌, ◌↔◌, List, [], ◌∷◌, map, ℕ, suc, length}
use Rattle.event.specs.declared.Range.{Range}
use Rattle.event.specs.declared.Event.TheVariants.{End, Persisted, Ordered}
use Rattle.event.specs.declared.Record.{Record}
use Rattle.event.specs.Reply.{Reply, answer_reply}
use Rattle.ranges.specs.Ranges.{covers}
use Rattle.history.specs.History.{stores_byte, stores_some}
use Rattle.history.specs.Interval.{epoch_at}
use Rattle.history.specs.Assertion.{BrokenByte, BrokenPair}
use Rattle.history.specs.Transaction.{depth, Since}
use Rattle.history.specs.Given.{window_of, Accepted, ClaimRun, reported}
use Rattle.history.specs.Small.{SmallRun, small_runs, recorded}
use Rattle.events.specs.Give.{give_of}
use Rattle.engine.specs.Call.{fresh_of, close_of}
use Rattle.engine.specs.Reply.{given_reply, closing_reply}
use Rattle.verdict.specs.Verdict.{verdict_of, verdict_reply}
use Rattle.claims.specs.After.{run_from, taken_from, answers_from, replies_from}
use Rattle.claims.specs.Calls.{Call, run_called, events_among}
use Rattle.claims.specs.Failure.{holds, LostAt, OutOfOrderAt}
use Rattle.claims.specs.Traces.{GivenSingly}

pub record Demand3 : Type 0 where
  -- the answers meet the claim: each event is refused by the first number that applies, or no number applies and its finding's
  -- claim is true
  pub claim : (asked : ℕ) (given : List Record) → ClaimRun (window_of asked) [] given (replies_from asked given)
  -- and no other answers do
  pub only : (asked : ℕ) (given : List Record) (others : List Reply) → ClaimRun (window_of asked) [] given others →
      others ≡ replies_from asked given
  -- so an accepted persisted over A holds exactly when no byte of A is broken
  pub persisted : (asked : ℕ) (given : List Record) (r : Record) {a : Range} → let h = taken_from asked given in
      Accepted (window_of asked) h r → r.event ≡ Persisted a →
      (given_reply (give_of (run_from asked given) r) ≡ holds) ↔
      ((b : ℕ) → BrokenByte (r ∷ h) (suc (length h)) (λ b. covers a b ≡ true) b → ⊥)
  -- otherwise it is lost
  pub persisted_lost : (asked : ℕ) (given : List Record) (r : Record) {a : Range} → let h = taken_from asked given in
      let answer = given_reply (give_of (run_from asked given) r) in
      Accepted (window_of asked) h r → r.event ≡ Persisted a →
      (answer ≡ holds) ⊎ LostAt (r ∷ h) (suc (length h)) (λ b. covers a b ≡ true) answer
  -- an accepted ordered, exactly when no pair of a kept byte of B and a lost byte of A is broken
  pub ordered : (asked : ℕ) (given : List Record) (r : Record) {a b : Range} → let h = taken_from asked given in
      Accepted (window_of asked) h r → r.event ≡ Ordered a b →
      (given_reply (give_of (run_from asked given) r) ≡ holds) ↔
      ((kept lost : ℕ) → BrokenPair (r ∷ h) (suc (length h)) a b kept lost → ⊥)
  -- otherwise it is out of order
  pub ordered_out_of_order : (asked : ℕ) (given : List Record) (r : Record) {a b : Range} → let h = taken_from asked given in
      let answer = given_reply (give_of (run_from asked given) r) in
      Accepted (window_of asked) h r → r.event ≡ Ordered a b →
      (answer ≡ holds) ⊎ OutOfOrderAt (r ∷ h) (suc (length h)) a b answer
  -- an accepted outermost end with a store of some byte since its begin, exactly when no byte stored since its begin is broken
  pub ends : (asked : ℕ) (given : List Record) (r : Record) → let h = taken_from asked given in
      Accepted (window_of asked) h r → r.event ≡ End → depth h ≡ 1 → Since h stores_some →
      (given_reply (give_of (run_from asked given) r) ≡ holds) ↔
      ((b : ℕ) → BrokenByte (r ∷ h) (suc (length h)) (λ b. Since h (stores_byte b)) b → ⊥)
  -- otherwise it is lost
  pub ends_lost : (asked : ℕ) (given : List Record) (r : Record) → let h = taken_from asked given in
      let answer = given_reply (give_of (run_from asked given) r) in
      Accepted (window_of asked) h r → r.event ≡ End → depth h ≡ 1 → Since h stores_some →
      (answer ≡ holds) ⊎ LostAt (r ∷ h) (suc (length h)) (λ b. Since h (stores_byte b)) answer
  -- the totals at closing: the accepted events, the fences among them, and the findings other than none
  pub totals : (asked : ℕ) (given : List Record) → let h = taken_from asked given in depth h ≡ 0 →
      closing_reply (close_of (run_from asked given)) ≡ Reply.values (length h ∷ epoch_at h (length h) ∷ reported (answers_from asked given) ∷ [])
  -- bytes asked, closings and mean exposures in between change nothing: the run after any calls is the run after the events among them
  pub between : (asked : ℕ) (calls : List Call) → run_called (fresh_of asked).run calls ≡ run_from asked (events_among calls)
  -- the findings area of an accepted trace holds, for each record in order, the finding that its event gets when the trace's events
  -- are given singly from the fresh window that the trace is judged from
  pub traces : (trace area totals : List ℕ) → verdict_reply (verdict_of trace area) ≡ Reply.values totals → GivenSingly trace area totals
  -- the starred small runs, given in a fresh window of two lines, get the answers of document 01's table, as document 02 changed it
  pub starred : map (λ (run : SmallRun). replies_from 2 (recorded run.given)) small_runs ≡
      map (λ (run : SmallRun). map answer_reply run.answers) small_runs
