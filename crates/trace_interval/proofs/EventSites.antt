-- Where no record of a trace is refused, the site of record n is that of accepted event n.
use Rattle.std.specs.Prelude.{Ok, Err}
use mathlib.Core.Path.{◌≡◌, refl, sym, ap, ◌∙◌}
use mathlib.Core.List.{List, [], ◌∷◌}
use Prim.Native.Nat.{ℕ, zero, suc, ◌+◌, ◌≤◌, ◌<◌}
use native.Mathlib.Omega.{arith}
use lib.ListN.{length}
use borrow.Author.Tests.{eq-eqb, ne_eqb}
use Rattle.event.specs.declared.Record.{Record}
use Rattle.event.specs.Answers.{Answer, Check, Parsed}
use Rattle.history.specs.History.{History}
use Rattle.history.specs.View.{of_history}
use Rattle.history.specs.Refused.{refusal_by}
use Rattle.history.specs.Found.{finding_by}
use Rattle.history.specs.Given.{answer_for, answer_of, after, accepted}
use Rattle.trace.specs.Records.{events_of}
use Rattle.trace.specs.Checked.{check_from, check_all}
use Rattle.verdict.proofs.Order.{unless_passed}
use Rattle.trace_interval.specs.TraceInterval.{site_after, site_in, site_of_event}

-- of one before the newest
site_older : (r : Record) (h : History) (i : ℕ) → i ≤ length h → site_of_event (r ∷ h) i ≡ site_of_event h i
unfolding site_of_event
site_older r h i k = rw (ne_eqb i (suc (length h)) (λ e. omega arith))

-- no event has a number above their count
site_above : (h : History) (i : ℕ) → length h < i → site_of_event h i ≡ 0
unfolding site_of_event
site_above [] i k = refl
site_above (r ∷ h) i k = rw (ne_eqb i (suc (length h)) (λ e. omega arith)) (site_above h i (omega arith))

-- events given later change none, by induction over them
site_kept : (lines : ℕ) (h : History) (given : List Record) (i : ℕ) → i ≤ length h → site_of_event (accepted lines h given) i ≡ site_of_event h i
unfolding accepted
site_kept lines h [] i k = refl
site_kept lines h (r ∷ given) i k = go (answer_of lines h r) (site_kept lines h given i k) (site_kept lines (r ∷ h) given i (omega arith))
  where
    go : (a : Answer) → site_of_event (accepted lines h given) i ≡ site_of_event h i →
        site_of_event (accepted lines (r ∷ h) given) i ≡ site_of_event (r ∷ h) i →
        site_of_event (accepted lines (after a r h) given) i ≡ site_of_event h i
    go (Err x) same more = same
    go (Ok f) same more = more ∙ site_older r h i k

-- an event that no limit refuses joins the history
joins : (lines : ℕ) (h : History) (r : Record) → refusal_by (of_history lines h) r.event ≡ (Ok tt) → after (answer_of lines h r) r h ≡ r ∷ h
unfolding answer_of
joins lines h r k = ap (λ (c : Check). after (answer_for c (finding_by (of_history lines h) r.event)) r h) k

-- the record with i before it, of those given after the history, by induction over them
same_after : (lines n : ℕ) (h : History) (records : List Parsed) → check_from lines n h records ≡ (Ok tt) → (i : ℕ) →
    site_after records i ≡ site_of_event (accepted lines h (events_of records)) (suc (length h + i))
unfolding site_after site_of_event accepted events_of check_from
same_after lines n h [] k i = sym (site_above h (suc (length h + i)) (omega arith))
same_after lines n h (Err x ∷ rest) k i = let z : ◌≡◌ {A = ℕ} 0 1 = cc in absurd (omega arith)
same_after lines n h (Ok r ∷ rest) k i =
    let taken = unless_passed (refusal_by (of_history lines h) r.event) n (check_from lines (suc n) (r ∷ h) rest) k in
    go i (same_after lines (suc n) (r ∷ h) rest taken.1) ∙
    ap (λ (h' : History). site_of_event (accepted lines h' (events_of rest)) (suc (length h + i))) (sym (joins lines h r taken.0))
  where
    go : (i : ℕ) → ((j : ℕ) → site_after rest j ≡ site_of_event (accepted lines (r ∷ h) (events_of rest)) (suc (length (r ∷ h) + j))) →
        site_after (Ok r ∷ rest) i ≡ site_of_event (accepted lines (r ∷ h) (events_of rest)) (suc (length h + i))
    go zero more =
        let first : length h + 0 ≡ length h = omega arith in
        rw (first, site_kept lines (r ∷ h) (events_of rest) (suc (length h)) (omega arith), eq-eqb (suc (length h)) (suc (length h)) refl)
    go (suc j) more = let place : length h + suc j ≡ length (r ∷ h) + j = omega arith in rw place (more j)

-- from a fresh window
pub same_site : (lines : ℕ) (records : List Parsed) → check_all lines records ≡ (Ok tt) → (n : ℕ) →
    site_in records n ≡ site_of_event (accepted lines [] (events_of records)) n
unfolding site_of_event
same_site lines records k zero = sym (site_kept lines [] (events_of records) 0 (omega arith))
same_site lines records k (suc i) =
    let place : 0 + i ≡ i = omega arith in
    same_after lines 1 [] records k i ∙ ap (λ (i : ℕ). site_of_event (accepted lines [] (events_of records)) (suc i)) place
