-- A trace is refused by the first number that applies, or by none: what the computed check says of its limits and of its records.
use Rattle.std.specs.Prelude.{Ok}
use mathlib.Core.Path.{◌≡◌, refl, ap, ◌∙◌}
use mathlib.Core.Bool.{cond}
use mathlib.Core.Logic.{◌≢◌, ◌⊎◌, inl, inr}
use mathlib.Core.List.{List, [], ◌∷◌}
use Prim.Native.Nat.{ℕ, zero, suc}
use lib.Dec.{eqb}
use lib.ListN.{take, drop}
use borrow.Author.Tests.{eq-eqb, ne_eqb}
use Rattle.event.specs.declared.Refusal.{Refusal}
use Rattle.event.specs.declared.Refusal.TheVariants.{TransactionOpen}
use Rattle.event.specs.Answers.{Check, refused_at}
use Rattle.event.specs.Numbers.{number_of}
use Rattle.event.specs.Reply.{Reply}
use Rattle.records.specs.Record.{record_size, record_of}
use Rattle.history.specs.History.{History}
use Rattle.history.specs.Transaction.{depth}
use Rattle.history.specs.Refused.{First, NoneBroken}
use Rattle.history.proofs.Given.{first_broken_lem, none_broken}
use Rattle.trailer.specs.Trailer.{trailer_of, file_limits, opened_for, opened_of, opened_reply}
use Rattle.trace.specs.Records.{records_of, lines_in, records_in}
use Rattle.trace.specs.Checked.{unless_broken, check_from, check_all}
use Rattle.verdict.specs.Verdict.{trace_limits, trace_check, verdict_of, verdict_reply}
use Rattle.verdict.proofs.Outcome.{refuses, area_stays, totalled}
use Rattle.claims.specs.Traces.{record_limits, Stops, Takes, StopsAt, TakesAll, Rejected}
use Rattle.claims.proofs.Answers.{Limited, limited, not_refused}
use Rattle.claims.proofs.Records.{record_checked}

-- the check of the records finds the first that is refused
pub stops_checked : {lines n count : ℕ} {h : History} {s : List ℕ} {x : Refusal} {m : ℕ} →
    Stops lines n h count s x m → check_from lines n h (records_of count s) ≡ refused_at x m
unfolding records_of
stops_checked {lines} {n} {h = h} {s = s} (Stops.here k) = record_checked lines n h (take record_size s) _ ∙ (rw (first_broken_lem k))
stops_checked {lines} {n} {h = h} {s = s} (Stops.later k rest) =
    record_checked lines n h (take record_size s) _ ∙ (rw (none_broken k) (stops_checked rest))

-- where all are taken, it passes unless a transaction is open
pub takes_checked : {lines count : ℕ} (n : ℕ) {h : History} {s : List ℕ} {all : History} →
    Takes lines h count s all → check_from lines n h (records_of count s) ≡ cond (eqb (depth all) 0) (Ok tt) (refused_at TransactionOpen 0)
unfolding records_of check_from
takes_checked n Takes.done = refl
takes_checked {lines} n {h} {s} (Takes.takes {count = count} k rest) =
    record_checked lines n h (take record_size s) (records_of count (drop record_size s)) ∙ (rw (none_broken k) (takes_checked (suc n) rest))

-- a record is refused first, or all are taken
abbrev pub Decided : (lines n : ℕ) → History → (count : ℕ) → List ℕ → Type 0
Decided lines n h count s = ((x : Refusal) × (m : ℕ) × Stops lines n h count s x m) ⊎ ((all : History) × Takes lines h count s all)

pub records_decided_lem : (lines n : ℕ) (h : History) (count : ℕ) (s : List ℕ) → Decided lines n h count s
records_decided_lem lines n h zero s = inr (h, Takes.done)
records_decided_lem lines n h (suc count) s =
    go (limited (record_limits lines h (take record_size s))) (records_decided_lem lines (suc n) (record_of (take record_size s) ∷ h) count (drop record_size s))
  where
    go : Limited (record_limits lines h (take record_size s)) →
        Decided lines (suc n) (record_of (take record_size s) ∷ h) count (drop record_size s) → Decided lines n h (suc count) s
    go (inl (x, k)) more = inl (x, n, Stops.here k)
    go (inr k) (inl (x, m, t)) = inl (x, m, Stops.later k t)
    go (inr k) (inr (all, t)) = inr (all, Takes.takes k t)

-- a trailer read
module _ (s : List ℕ) where
  pub trailer_refused_lem : {x : Refusal} → First (file_limits s) x → opened_reply (opened_of s) ≡ Reply.refused (number_of x) 0
  unfolding opened_of
  trailer_refused_lem k = ap (λ (c : Check). opened_reply (opened_for c (trailer_of s))) (first_broken_lem k)

  pub trailer_taken_lem : NoneBroken (file_limits s) →
      opened_reply (opened_of s) ≡ Reply.values ((trailer_of s).offset ∷ (trailer_of s).count ∷ (trailer_of s).lines ∷ [])
  unfolding opened_of
  trailer_taken_lem k = ap (λ (c : Check). opened_reply (opened_for c (trailer_of s))) (none_broken k)

module _ (trace area : List ℕ) where
  -- what the check refuses is rejected
  rejected : {x : Refusal} {n : ℕ} → trace_check trace area ≡ refused_at x n → Rejected trace area (number_of x) n
  rejected e = (ap verdict_reply (refuses trace area e), area_stays trace area e)

  -- a limit on trace and area is broken
  pub trace_refused_lem : {x : Refusal} → First (trace_limits trace area) x → Rejected trace area (number_of x) 0
  trace_refused_lem k = rejected (ap (λ (c : Check). unless_broken c 0 (check_all (lines_in trace) (records_in trace))) (first_broken_lem k))

  -- where none is, the records decide
  pub records_check : NoneBroken (trace_limits trace area) → trace_check trace area ≡ check_all (lines_in trace) (records_in trace)
  records_check k = ap (λ (c : Check). unless_broken c 0 (check_all (lines_in trace) (records_in trace))) (none_broken k)

  -- a record is refused
  pub record_refused_lem : {x : Refusal} {n : ℕ} → NoneBroken (trace_limits trace area) → StopsAt trace x n → Rejected trace area (number_of x) n
  record_refused_lem k t = rejected (records_check k ∙ stops_checked t)

  -- all records are taken and a transaction is open
  pub trace_open_lem : {h : History} → NoneBroken (trace_limits trace area) → TakesAll trace h → depth h ≢ 0 → Rejected trace area 13 0
  trace_open_lem {h} k t d = rejected {x = TransactionOpen} {n = 0} (records_check k ∙ takes_checked 1 t ∙ (rw (ne_eqb (depth h) 0 d)))

  -- all records are taken and no transaction is open: the check passes
  pub records_pass : {h : History} → TakesAll trace h → depth h ≡ 0 → check_all (lines_in trace) (records_in trace) ≡ Ok tt
  records_pass {h} t d = takes_checked 1 t ∙ (rw (eq-eqb (depth h) 0 d))

  pub trace_passed : {h : History} → NoneBroken (trace_limits trace area) → TakesAll trace h → depth h ≡ 0 → trace_check trace area ≡ Ok tt
  trace_passed k t d = records_check k ∙ records_pass t d

  -- so no number refuses the trace
  pub trace_taken_lem : {h : History} (number at : ℕ) → NoneBroken (trace_limits trace area) → TakesAll trace h → depth h ≡ 0 →
      verdict_reply (verdict_of trace area) ≢ Reply.refused number at
  trace_taken_lem number at k t d e = not_refused (ap verdict_reply (totalled trace area (trace_passed k t d))) e
