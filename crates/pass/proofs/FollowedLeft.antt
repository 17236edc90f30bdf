-- The records of a trace that are left after some were followed.
use Rattle.std.specs.Prelude.{Ok, Err}
use mathlib.Core.Path.{◌≡◌, sym, ◌∙◌}
use mathlib.Core.List.{List, [], ◌∷◌}
use Prim.Native.Nat.{ℕ, suc, ◌+◌, ◌-◌, ◌*◌, ◌≤◌, ◌<◌}
use native.Mathlib.Omega.{arith}
use lib.ListN.{drop}
use Rattle.event.specs.declared.Refusal.{Refusal}
use Rattle.event.specs.Answers.{Check, Parsed, refused_at}
use Rattle.records.specs.Record.{parsed, record_size}
use Rattle.tables.specs.Run.{Run}
use Rattle.trace.specs.Records.{records_of}
use Rattle.trace.proofs.RecordsNext.{records_next}
use Rattle.record_step.specs.Step.{stage}
use Rattle.pass.specs.Pass.{closing}
use Rattle.pass.specs.Follow.{Ended, ended, record_followed, records_followed}

-- where the records after the first i lead
abbrev pub left_followed : (records : List ℕ) (count i : ℕ) → Run → Ended
left_followed records count i run = records_followed (records_of (count - i) (drop (record_size * i) records)) (i + 1) run

-- one record followed: where it is refused, all end there, and else they go on with the others
first_refused : {all rest : List Parsed} {p : Parsed} {next : Run} {check : Check} {x : Refusal} (n : ℕ) (run : Run) → all ≡ p ∷ rest →
    check ≡ (record_followed p run).check → next ≡ (record_followed p run).run → check ≡ Err x →
    ended (refused_at x n) next ≡ records_followed all n run
unfolding records_followed
first_refused n run e a g r = rw (e, ← a, r, g)

first_taken : {all rest : List Parsed} {p : Parsed} {next : Run} {check : Check} {done : Unit {0}} (n : ℕ) {m : ℕ} (run : Run) → all ≡ p ∷ rest →
    check ≡ (record_followed p run).check → next ≡ (record_followed p run).run → check ≡ Ok done → suc n ≡ m →
    records_followed rest m next ≡ records_followed all n run
unfolding records_followed
first_taken n run e a g r k = rw (e, ← a, r, g, ← k)

-- so the record with i before it
module _ (records : List ℕ) (count i : ℕ) (run : Run) (more : i < count) {p : Parsed} (read : p ≡ parsed (drop (record_size * i) records))
    {next : Run} {check : Check} (a : check ≡ (record_followed p run).check) (given : next ≡ (record_followed p run).run) where
  -- it is the first of those that are left
  first_left : records_of (count - i) (drop (record_size * i) records) ≡ p ∷ records_of (count - (i + 1)) (drop (record_size * (i + 1)) records)
  first_left = let left : count - i ≡ suc (count - (i + 1)) = omega arith in rw (left, read) (records_next (count - (i + 1)) i records)

  pub refused_there : {x : Refusal} → check ≡ Err x → ended (refused_at x (i + 1)) next ≡ left_followed records count i run
  refused_there r = first_refused {p = p} (i + 1) run first_left a given r

  pub next_left : {done : Unit {0}} → check ≡ Ok done → left_followed records count (i + 1) next ≡ left_followed records count i run
  next_left r = first_taken {p = p} (i + 1) run first_left a given r (omega arith)

-- after the last comes the closing
none_left : (records : List ℕ) (count i : ℕ) (run : Run) → count ≤ i → left_followed records count i run ≡ ended (closing (stage run [])) run
unfolding records_of records_followed
none_left records count i run k = let none : count - i ≡ 0 = omega arith in rw none

-- before the first, all are left
pub all_followed : (records : List ℕ) (count : ℕ) (run : Run) → left_followed records count 0 run ≡ records_followed (records_of count records) 1 run
all_followed records count run = let all : count - 0 ≡ count = omega arith in rw all

-- so the closing ends where all records lead
pub closed_there : (records : List ℕ) (count i : ℕ) (start run : Run) → count ≤ i → left_followed records count i run ≡ left_followed records count 0 start →
    ended (closing (stage run [])) run ≡ records_followed (records_of count records) 1 start
closed_there records count i start run k e = sym (none_left records count i run k) ∙ e ∙ all_followed records count start
