-- The link: a run that grew from a fresh window tracks the accepted events, so it answers as they say.
use mathlib.Core.Path.{◌≡◌, refl, sym, ◌∙◌}
use mathlib.Core.Bool.{Bool, true, false, not, ◌&&◌}
use mathlib.Core.Logic.{◌≢◌}
use mathlib.Core.List.{List, [], ◌∷◌}
use Prim.Native.Nat.{ℕ, min, ◌+◌, ◌≤◌, ◌<◌}
use native.Mathlib.Nat.{le_refl}
use native.Mathlib.Omega.{arith}
use native.Mathlib.Decide.{dec_le}
use lib.Dec.{eqb, leb, ltb}
use lib.ListN.{length}
use borrow.Author.Tests.{lt-ltb, ltb-true, le-leb, eqb-true}
use Rattle.event.specs.declared.Record.{Record}
use Rattle.event.proofs.Bools.{and_left, and_right, or_left, or_right}
use Rattle.window.specs.Window.{most_lines, line_of}
use Rattle.history.specs.Count.{last}
use Rattle.history.specs.History.{History, is, fences, stores_line, writes_back_line}
use Rattle.history.specs.Interval.{last_store, closing_fence}
use Rattle.history.specs.Transaction.{outermost}
use Rattle.history.specs.View.{of_history}
use Rattle.history.specs.Given.{accepted, answers, reported}
use Rattle.history.specs.Image.{Forced}
use Rattle.history.proofs.History.{is_last, is_latest}
use Rattle.history.proofs.Interval.{last_store_on_line, closing_stored, forced_closes}
use Rattle.history.proofs.Tests.{not_zero}
use Rattle.tables.specs.Run.{Run}
use Rattle.tables.specs.Table.{entry}
use Rattle.tables.specs.View.{since_store, line_open, of_run}
use Rattle.tables.proofs.SinceStore.{open_by}
use Rattle.events.specs.Give.{next_of}
use Rattle.engine.specs.Call.{empty_run}
use Rattle.engine.specs.Given.{run_after, outcomes}
use Rattle.engine.specs.Tracks.{Tracks}
use Rattle.engine.proofs.ClosingFence.{last_back}
use Rattle.engine.proofs.OneEvent.{Follows, findings_next, follows_next}
use Rattle.engine.proofs.FreshWindow.{fresh_follows}
use Rattle.engine.proofs.Answered.{Answered, answered}

-- the closing fence of a byte, from the tables
pub same_closing : {lines : ℕ} {h : History} {run : Run} → Tracks lines h run → (b : ℕ) →
    since_store (entry run.stored b) (entry run.fenced b) ≡ closing_fence h b
same_closing t b = rw (t.stored b) (t.fenced b)

-- a line that has an open byte may have one: a write-back after its last store and a fence after that would have closed the byte
open_line_lem : (h : History) (b : ℕ) → let fence = last (is fences h) (length h) in let dirtied = last (is (stores_line (line_of b)) h) (length h) in
    not (eqb (last_store h b) 0) && eqb (closing_fence h b) 0 ≡ true → line_open fence dirtied (last_back h (line_of b)) ≡ true
open_line_lem h b e = go (dec_le back dirtied) (dec_le fence back)
  where
    fence : ℕ
    fence = last (is fences h) (length h)

    dirtied : ℕ
    dirtied = last (is (stores_line (line_of b)) h) (length h)

    back : ℕ
    back = last_back h (line_of b)

    stored : last_store h b ≢ 0
    stored = not_zero (last_store h b) (and_left (not (eqb (last_store h b) 0)) (eqb (closing_fence h b) 0) e)

    closed : dirtied < back → back < fence → Forced h (line_of b) (last_store h b) fence
    closed k j =
        record {
          back = back;
          fence = fence;
          after = omega (arith, k, is_latest (stores_line (line_of b)) h (last_store h b) (last_store_on_line h b stored));
          is_back = is_last (writes_back_line (line_of b)) h (λ z. omega (arith, k, z));
          later = j;
          is_fence = is_last fences h (λ z. omega (arith, j, z));
          by = le_refl fence;
        }

    go : Dec (back ≤ dirtied) → Dec (fence ≤ back) → line_open fence dirtied back ≡ true
    go (yes k) d = or_left (leb fence back) (le-leb back dirtied k)
    go (no k) (yes j) = or_right (leb back dirtied) (le-leb fence back j)
    go (no k) (no j) =
        absurd
        ((forced_closes h (closed (omega (arith, k)) (omega (arith, j)))).there
        (sym (closing_stored h b stored) ∙ eqb-true (closing_fence h b) 0 (and_right (not (eqb (last_store h b) 0)) (eqb (closing_fence h b) 0) e)))

same_risk : {lines : ℕ} {h : History} {run : Run} → Tracks lines h run → (b : ℕ) → (of_run run).risk b ≡ (of_history lines h).risk b
same_risk {h = h} {run = run} t b =
    rw (t.latest_fence, t.dirtied (line_of b), t.backed (line_of b), t.stored b, ← open_by (last_store h b) (entry run.fenced b), t.fenced b)
    (implied _ _ (open_line_lem h b))
  where
    implied : (a b : Bool) → (b ≡ true → a ≡ true) → a && b ≡ b
    implied true b f = refl
    implied false true f = f refl
    implied false false f = refl

-- a byte that was stored to since an event is on a line that was
line_since : (h : History) (n b : ℕ) → (ltb n (last (is (stores_line (line_of b)) h) (length h)) && ltb n (last_store h b)) ≡ ltb n (last_store h b)
line_since h n b = go (ltb n (last_store h b)) refl
  where
    neither : (t : Bool) → (t && false) ≡ false
    neither true = refl
    neither false = refl

    go : (t : Bool) → ltb n (last_store h b) ≡ t → (ltb n (last (is (stores_line (line_of b)) h) (length h)) && t) ≡ t
    go true e =
        let later : n < last_store h b = ltb-true n (last_store h b) e in
        let on_line = is_latest (stores_line (line_of b)) h (last_store h b) (last_store_on_line h b (λ z. omega arith)) in
        rw (lt-ltb n (last (is (stores_line (line_of b)) h) (length h)) (omega (arith, later, on_line)))
    go false e = neither (ltb n (last (is (stores_line (line_of b)) h) (length h)))

same_since : {lines : ℕ} {h : History} {run : Run} → Tracks lines h run → (b : ℕ) → (of_run run).stored_since b ≡ (of_history lines h).stored_since b
same_since {h = h} t b = rw (t.began, t.dirtied (line_of b), t.stored b) (line_since h (outermost h) b)

-- a run that tracks a history answers a judge's questions as the history does
pub same_view : {lines : ℕ} {h : History} {run : Run} → lines ≤ most_lines → Tracks lines h run → of_run run ≡ of_history lines h
same_view {lines} {h} {run} m t =
    let window : min run.counts.lines most_lines ≡ lines = omega arith in
    λ i.
    record {
      lines = window i;
      events = t.events i;
      depth = t.nesting i;
      begin = t.began i;
      latest_store = t.latest_store i;
      last_store = λ b. t.stored b i;
      last_log = λ b. t.logged b i;
      stored_since = λ b. same_since t b i;
      risk = λ b. same_risk t b i;
      closing = λ b. same_closing t b i;
      line_store = λ l. t.dirtied l i;
      line_back = λ l. t.backed l i;
    }

-- events given to a run that follows a history: the run after them follows the accepted ones, and has their answers and findings
record Linked (lines : ℕ) (h : History) (run : Run) (given : List Record) : Type 0 where
  follows : Follows lines (accepted lines h given) (run_after run given)
  same : outcomes run given ≡ answers lines h given
  findings : (run_after run given).counts.findings ≡ run.counts.findings + reported (answers lines h given)

-- by induction over the events given
linked : (lines : ℕ) → lines ≤ most_lines → (h : History) (run : Run) (given : List Record) → Follows lines h run → Linked lines h run given
unfolding accepted answers run_after outcomes reported
linked lines m h run [] k = record { follows = k; same = refl; findings = omega arith }
linked lines m h run (r ∷ given) k =
    go (answered lines h run r view) (linked lines m h run given k) (λ next j. linked lines m (r ∷ h) next given j)
  where
    view : of_run run ≡ of_history lines h
    view = same_view m k.tracks

    go : Answered lines h run r → Linked lines h run given →
        ((next : Run) → Follows lines (r ∷ h) next → Linked lines (r ∷ h) next given) → Linked lines h run (r ∷ given)
    go (Answered.refused {x = x} a g) rest more =
        record { follows = rw (a, g) rest.follows; same = rw (a, g, rest.same); findings = rw (a, g, run_after) (omega (arith, rest.findings)) }
    go (Answered.found {f = f} t a g) rest more =
        let next = more (next_of run r.event f) (follows_next lines m h run k view r t f) in
        record {
          follows = rw (a, g) next.follows;
          same = rw (a, g, next.same);
          findings = rw (a, g, run_after) (omega (arith, next.findings, findings_next lines m h run k view r t f));
        }

-- from the run of a fresh window
fresh_linked : (lines : ℕ) → lines ≤ most_lines → (given : List Record) → Linked lines [] (empty_run lines) given
fresh_linked lines m given = linked lines m [] (empty_run lines) given (fresh_follows lines)

-- after every list of given events, each number and each table entry of the run is what the accepted ones say
pub tracks : (lines : ℕ) → lines ≤ most_lines → (given : List Record) → Tracks lines (accepted lines [] given) (run_after (empty_run lines) given)
tracks lines m given = (fresh_linked lines m given).follows.tracks

-- and each event got the answer that they say
pub same_answers : (lines : ℕ) → lines ≤ most_lines → (given : List Record) → outcomes (empty_run lines) given ≡ answers lines [] given
same_answers lines m given = (fresh_linked lines m given).same

-- the findings other than none are counted
pub findings_counted : (lines : ℕ) → lines ≤ most_lines → (given : List Record) →
    (run_after (empty_run lines) given).counts.findings ≡ reported (answers lines [] given)
unfolding empty_run
findings_counted lines m given = omega (arith, (fresh_linked lines m given).findings)
