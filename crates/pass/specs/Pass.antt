-- The records given one after another to a run, with their findings put into a buffer, as the code goes over them: up to the first that
-- is refused, and then the closing.
use Rattle.std.specs.Prelude.{cond, List, [], ◌∷◌, ℕ, suc, ◌+◌, eqb, Ok, Err}
use Rattle.event.specs.declared.Refusal.TheVariants.{TransactionOpen}
use Rattle.event.specs.Answers.{Answer, Parsed, refused_at}
use Rattle.codec.specs.Codec.{finding_size}
use Rattle.engine.specs.Call.{empty_run}
use Rattle.trace.specs.Answers.{TraceCheck}
use Rattle.trace.specs.Records.{records_of}
use Rattle.record_step.specs.Step.{Stage, stage, record_answer, record_given}

-- where the records lead, and whether one of them is refused, or the closing
pub record Passed : Type 0 where
  pub check : TraceCheck
  pub stage : Stage

abbrev pub result : TraceCheck → Stage → Passed
result check stage = record { check = check; stage = stage }

-- the closing: 13 where a transaction is open
abbrev pub closing : Stage → TraceCheck
closing s = cond (eqb s.run.counts.depth 0) (Ok tt) (refused_at TransactionOpen 0)

-- a record with this number that got this answer: it is refused, or the others are given
abbrev pub after_answer : Answer → ℕ → Stage → Passed → Passed
after_answer (Err x) n s others = result (refused_at x n) s
after_answer (Ok f) n s others = others

-- the records from number n on, the first finding at a place
unfoldable pub records_judged : List Parsed → (n at : ℕ) → Stage → Passed
records_judged [] n at s = result (closing s) s
records_judged (p ∷ rest) n at s =
    after_answer (record_answer p s) n (record_given p at s) (records_judged rest (suc n) (at + finding_size) (record_given p at s))

-- so many records, the first finding at the start of the buffer
abbrev pub records_given : (count : ℕ) (records : List ℕ) → Stage → Passed
records_given count records s = records_judged (records_of count records) 1 0 s

-- from a fresh window of so many lines
abbrev pub all_judged : (count lines : ℕ) (records buffer : List ℕ) → Passed
all_judged count lines records buffer = records_given count records (stage (empty_run lines) buffer)
