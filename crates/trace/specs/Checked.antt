-- The records of a trace, refused or taken one after another, and its closing.
use Rattle.std.specs.Prelude.{cond, List, [], ◌∷◌, ℕ, suc, eqb, Ok, Err}
use Rattle.event.specs.declared.Refusal.TheVariants.{UnknownKind, FieldSet, TransactionOpen}
use Rattle.event.specs.Answers.{Check, Parsed, refused_at}
use Rattle.records.specs.Record.{bad_kind, field_set}
use Rattle.history.specs.History.{History}
use Rattle.history.specs.Transaction.{depth}
use Rattle.history.specs.View.{of_history}
use Rattle.history.specs.Refused.{Limit, limit, refusal_by}
use Rattle.trace.specs.Answers.{TraceCheck}

-- the limits on the bytes of a record by themselves, in order
abbrev pub read_limits : List ℕ → List Limit
read_limits s =
    limit (bad_kind s) UnknownKind ∷  -- 6 kind not 1 to 8
    limit (field_set s) FieldSet ∷  -- 7 a zero byte or lacking field set
    []

-- where a check passes, the rest decides; where it does not, the trace is refused at number n
abbrev pub unless_broken : Check → ℕ → TraceCheck → TraceCheck
unless_broken (Ok _) n rest = rest
unless_broken (Err x) n rest = refused_at x n

-- the records from number n on, after the history: the first that is refused, by 6 or 7 from its bytes or by 9, 18, 10 to 12 from its
-- event, and its number; else 13 if a transaction is open then, with the number 0
unfoldable pub check_from : (lines n : ℕ) → History → List Parsed → TraceCheck
check_from lines n h [] = cond (eqb (depth h) 0) (Ok tt) (refused_at TransactionOpen 0)
check_from lines n h (Err x ∷ rest) = refused_at x n
check_from lines n h (Ok r ∷ rest) = unless_broken (refusal_by (of_history lines h) r.event) n (check_from lines (suc n) (r ∷ h) rest)

-- all records of a trace, from a fresh window
abbrev pub check_all : ℕ → List Parsed → TraceCheck
check_all lines records = check_from lines 1 [] records
