-- The records of a trace that are left after some were given.
use Rattle.std.specs.Prelude.{Ok, Err}
use mathlib.Core.Path.{◌≡◌, sym, ◌∙◌}
use mathlib.Core.List.{List, ◌∷◌}
use Prim.Native.Nat.{ℕ, suc, ◌+◌, ◌-◌, ◌*◌, ◌≤◌, ◌<◌}
use native.Mathlib.Omega.{arith}
use lib.ListN.{drop}
use Rattle.event.specs.declared.Refusal.{Refusal}
use Rattle.event.specs.declared.Finding.{Finding}
use Rattle.event.specs.Answers.{Answer, Parsed, refused_at}
use Rattle.codec.specs.Codec.{finding_size}
use Rattle.records.specs.Record.{parsed, record_size}
use Rattle.trace.specs.Records.{records_of}
use Rattle.trace.proofs.RecordsNext.{records_next}
use Rattle.record_step.specs.Step.{Stage, record_answer, record_given}
use Rattle.pass.specs.Pass.{Passed, result, closing, records_judged}

-- where the records after the first i lead
abbrev pub left_judged : (records : List ℕ) (count i : ℕ) → Stage → Passed
left_judged records count i s = records_judged (records_of (count - i) (drop (record_size * i) records)) (i + 1) (finding_size * i) s

-- one record given: where it is refused, all end there, and else they go on with the others
first_refused : {all rest : List Parsed} {p : Parsed} {next : Stage} {answer : Answer} {x : Refusal} (n at : ℕ) (s : Stage) → all ≡ p ∷ rest →
    answer ≡ record_answer p s → next ≡ record_given p at s → answer ≡ Err x → result (refused_at x n) next ≡ records_judged all n at s
unfolding records_judged
first_refused n at s e a g r = rw (e, ← a, r, g)

first_found : {all rest : List Parsed} {p : Parsed} {next : Stage} {answer : Answer} {f : Finding} (n at : ℕ) {m to : ℕ} (s : Stage) → all ≡ p ∷ rest →
    answer ≡ record_answer p s → next ≡ record_given p at s → answer ≡ Ok f → suc n ≡ m → at + finding_size ≡ to →
    records_judged rest m to next ≡ records_judged all n at s
unfolding records_judged
first_found n at s e a g r k l = rw (e, ← a, r, g, ← k, ← l)

-- so the record with i before it
module _ (records : List ℕ) (count i : ℕ) (s : Stage) (more : i < count) {p : Parsed} (read : p ≡ parsed (drop (record_size * i) records))
    {next : Stage} {answer : Answer} (a : answer ≡ record_answer p s) (given : next ≡ record_given p (finding_size * i) s) where
  -- it is the first of those that are left
  first_left : records_of (count - i) (drop (record_size * i) records) ≡ p ∷ records_of (count - (i + 1)) (drop (record_size * (i + 1)) records)
  first_left = let left : count - i ≡ suc (count - (i + 1)) = omega arith in rw (left, read) (records_next (count - (i + 1)) i records)

  pub refused_here : {x : Refusal} → answer ≡ Err x → result (refused_at x (i + 1)) next ≡ left_judged records count i s
  refused_here r = first_refused {p = p} (i + 1) (finding_size * i) s first_left a given r

  pub next_judged : {f : Finding} → answer ≡ Ok f → left_judged records count (i + 1) next ≡ left_judged records count i s
  next_judged r = first_found {p = p} (i + 1) (finding_size * i) s first_left a given r (omega arith) (omega arith)

-- after the last comes the closing
none_left : (records : List ℕ) (count i : ℕ) (s : Stage) → count ≤ i → left_judged records count i s ≡ result (closing s) s
unfolding records_of records_judged
none_left records count i s k = let none : count - i ≡ 0 = omega arith in rw none

-- before the first, all are left
pub all_left : (records : List ℕ) (count : ℕ) (s : Stage) → left_judged records count 0 s ≡ records_judged (records_of count records) 1 0 s
all_left records count s = let all : count - 0 ≡ count = omega arith in rw all

-- so the closing ends where all records lead
pub closed_here : (records : List ℕ) (count i : ℕ) (start s : Stage) → count ≤ i → left_judged records count i s ≡ left_judged records count 0 start →
    result (closing s) s ≡ records_judged (records_of count records) 1 0 start
closed_here records count i start s k e = sym (none_left records count i s k) ∙ e ∙ all_left records count start
