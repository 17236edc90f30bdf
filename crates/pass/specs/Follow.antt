-- The records given one after another to a run where nobody asks for findings, as the code goes over them: up to the first that is refused, and
-- then the closing.
use Rattle.std.specs.Prelude.{List, [], ◌∷◌, ℕ, suc, Ok, Err}
use Rattle.event.specs.Answers.{Check, Parsed, refused_at}
use Rattle.tables.specs.Run.{Run}
use Rattle.events.specs.Follow.{Followed, follow_of}
use Rattle.trace.specs.Answers.{TraceCheck}
use Rattle.record_step.specs.Step.{stage}
use Rattle.pass.specs.Pass.{closing}

-- whether one of them is refused, or the closing, and the run then
pub record Ended : Type 0 where
  pub check : TraceCheck
  pub run : Run

abbrev pub ended : TraceCheck → Run → Ended
ended check run = record { check = check; run = run }

-- what one record gets and where it leads: 6 or 7 from its bytes, or what its event gets
abbrev pub record_followed : Parsed → Run → Followed
record_followed (Ok r) run = follow_of run r
record_followed (Err x) run = record { check = Err x; run = run }

-- a record with this number that got this check: it is refused, or the others are followed
abbrev pub after_check : Check → ℕ → Run → Ended → Ended
after_check (Err x) n run others = ended (refused_at x n) run
after_check (Ok _) n run others = others

-- the records from number n on
unfoldable pub records_followed : List Parsed → ℕ → Run → Ended
records_followed [] n run = ended (closing (stage run [])) run
records_followed (p ∷ rest) n run =
    after_check (record_followed p run).check n (record_followed p run).run (records_followed rest (suc n) (record_followed p run).run)
