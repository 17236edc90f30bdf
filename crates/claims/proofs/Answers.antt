-- The run after events given from a fresh window, and what it answers: what the accepted events say.
use Rattle.std.specs.Prelude.{Ok, Err}
use mathlib.Core.Path.{◌≡◌, refl, sym, ap, ◌∙◌}
use mathlib.Core.Bool.{Bool, true, false, cond, ◌||◌}
use mathlib.Core.Logic.{◌⊎◌, inl, inr}
use mathlib.Core.List.{List, []}
use Prim.Native.Nat.{ℕ, ◌+◌, ◌≤◌, ◌<◌}
use native.Mathlib.Omega.{arith}
use lib.Dec.{eqb, ltb}
use lib.ListN.{length}
use borrow.Author.Tests.{ltb-false, lt-ltb, le-ltb}
use Rattle.event.specs.declared.Record.{Record}
use Rattle.event.specs.declared.Refusal.{Refusal}
use Rattle.event.specs.declared.Refusal.TheVariants.{BadLines, PastWindow}
use Rattle.event.specs.Answers.{Check, totals}
use Rattle.event.specs.Reply.{Reply}
use Rattle.window.specs.Window.{most_lines, window_bytes}
use Rattle.history.specs.Interval.{epoch_at, named_of}
use Rattle.history.specs.Transaction.{depth}
use Rattle.history.specs.View.{View, of_history}
use Rattle.history.specs.Refused.{Limit, limits_by, First, NoneBroken}
use Rattle.history.specs.Found.{finding_by}
use Rattle.history.specs.Given.{window_for, window_of, RefusedBy, Accepted, answers, reported}
use Rattle.history.proofs.Claim.{Inside}
use Rattle.history.proofs.Given.{Checked, checked, answer_refused, answer_found}
use Rattle.history.proofs.Meaning.Accepted.{Taken, accepted_taken}
use Rattle.tables.specs.View.{of_run}
use Rattle.events.specs.Give.{give_of}
use Rattle.engine.specs.Call.{ask_of, close_of}
use Rattle.engine.specs.Tracks.{Tracks}
use Rattle.engine.proofs.Histories.{taken_inside}
use Rattle.engine.proofs.Answered.{Answered, answered}
use Rattle.engine.proofs.ByEntries.{same_named}
use Rattle.engine.proofs.Link.{same_view, tracks, same_answers, findings_counted}
use Rattle.claims.specs.After.{run_from, taken_from, answers_from}

-- a window has at most 64 lines
pub window_fits : (asked : ℕ) → window_of asked ≤ most_lines
window_fits asked = go (eqb asked 0) (ltb 64 asked) refl
  where
    go : (none many : Bool) → ltb 64 asked ≡ many → window_for (cond (none || many) (Err BadLines) (Ok tt)) asked ≤ most_lines
    go true many e = omega arith
    go false true e = omega arith
    go false false e = ltb-false 64 asked e

-- some number applies first, or none does
abbrev pub Limited : List Limit → Type 0
Limited limits = ((x : Refusal) × First limits x) ⊎ NoneBroken limits

pub limited : (limits : List Limit) → Limited limits
limited limits = go (checked limits)
  where
    go : {c : Check} → Checked limits c → Limited limits
    go (Checked.none k) = inr k
    go (Checked.first {x = x} k) = inl (x, k)

module _ (asked : ℕ) (given : List Record) where
  -- the run tracks the accepted events
  pub tracked : Tracks (window_of asked) (taken_from asked given) (run_from asked given)
  tracked = tracks (window_of asked) (window_fits asked) given

  -- and answers a judge's questions as they do
  pub viewed : of_run (run_from asked given) ≡ of_history (window_of asked) (taken_from asked given)
  viewed = same_view (window_fits asked) tracked

  pub same : answers_from asked given ≡ answers (window_of asked) [] given
  same = same_answers (window_of asked) (window_fits asked) given

  -- the accepted stores lie in the window
  pub inside : Inside (window_of asked) (taken_from asked given)
  inside = taken_inside (accepted_taken (window_of asked) [] given Taken.start)

  -- an event is refused by a number or accepted
  pub decided : (r : Record) → ((x : Refusal) × RefusedBy (window_of asked) (taken_from asked given) r x) ⊎ Accepted (window_of asked) (taken_from asked given) r
  decided r = limited (limits_by (of_history (window_of asked) (taken_from asked given)) r.event)

  -- a refused event leaves the run as it was
  pub refused : (r : Record) {x : Refusal} → RefusedBy (window_of asked) (taken_from asked given) r x →
      give_of (run_from asked given) r ≡ record { answer = Err x; run = run_from asked given }
  refused r {x} k = go (answered (window_of asked) (taken_from asked given) (run_from asked given) r viewed)
    where
      go : Answered (window_of asked) (taken_from asked given) (run_from asked given) r → give_of (run_from asked given) r ≡ record { answer = Err x; run = run_from asked given }
      go (Answered.refused {x = y} a g) =
          let number : x ≡ y = cc (answer_refused (window_of asked) (taken_from asked given) r k) in
          rw number g
      go (Answered.found t a g) = let z : ◌≡◌ {A = ℕ} 0 1 = cc (answer_refused (window_of asked) (taken_from asked given) r k) in absurd (omega arith)

  -- an accepted one gets the finding of the history
  pub taken : (r : Record) → Accepted (window_of asked) (taken_from asked given) r →
      (give_of (run_from asked given) r).answer ≡ Ok (finding_by (of_history (window_of asked) (taken_from asked given)) r.event)
  taken r k = go (answered (window_of asked) (taken_from asked given) (run_from asked given) r viewed)
    where
      go : Answered (window_of asked) (taken_from asked given) (run_from asked given) r →
          (give_of (run_from asked given) r).answer ≡ Ok (finding_by (of_history (window_of asked) (taken_from asked given)) r.event)
      go (Answered.refused a g) = let z : ◌≡◌ {A = ℕ} 0 1 = cc (answer_found (window_of asked) (taken_from asked given) r k) in absurd (omega arith)
      go (Answered.found t a g) = rw g (sym a ∙ answer_found (window_of asked) (taken_from asked given) r k)

  -- a byte asked
  lines_viewed : (of_run (run_from asked given)).lines ≡ window_of asked
  lines_viewed = ap (λ (v : View). v.lines) viewed

  pub byte_refused_lem : (byte : ℕ) → window_bytes (window_of asked) ≤ byte → ask_of (run_from asked given) byte ≡ Err PastWindow
  byte_refused_lem byte k = rw (lines_viewed, lt-ltb (window_bytes (window_of asked)) (byte + 1) (omega arith))

  pub byte_known : (byte : ℕ) → byte < window_bytes (window_of asked) → ask_of (run_from asked given) byte ≡ Ok (named_of (taken_from asked given) byte)
  byte_known byte k =
      rw (lines_viewed, le-ltb (window_bytes (window_of asked)) (byte + 1) (omega arith)) (ap Ok (same_named tracked byte))

  -- the totals at closing
  pub closing_totals : let h = taken_from asked given in depth h ≡ 0 →
      close_of (run_from asked given) ≡ totals (length h) (epoch_at h (length h)) (reported (answers_from asked given))
  closing_totals d =
      let t = tracked in
      rw (t.nesting, d, t.events, t.epoch, findings_counted (window_of asked) (window_fits asked) given, same)

-- an answer with values is no refusal
pub not_refused : {r : Reply} {answer : List ℕ} {number at : ℕ} → r ≡ Reply.values answer → r ≡ Reply.refused number at → ⊥
not_refused e f = let z : ◌≡◌ {A = ℕ} 0 1 = cc in omega arith
