-- What is printed, in plain words: for the whole run of document 01, for a trace that is refused, and as the number in the foot.
use Rattle.std.specs.Prelude.{Ok, Err}
use mathlib.Core.Path.{◌≡◌, refl}
use mathlib.Core.List.{List, [], ◌∷◌, ◌++◌}
use Prim.Native.Nat.{ℕ, suc, ◌≤◌}
use native.Mathlib.Omega.{arith}
use lib.ListN.{length}
use borrow.Author.Tests.{le-ltb}
use Rattle.event.specs.declared.Range.{Range}
use Rattle.event.specs.declared.Event.{Event}
use Rattle.event.specs.declared.Event.TheVariants.{Store, WriteBack, Fence, Persisted, Ordered}
use Rattle.event.specs.declared.Record.{Record}
use Rattle.event.specs.declared.Finding.TheVariants.{None, Holds, Lost, OutOfOrder, Unlogged, Clean, WrittenTwice, LoggedTwice, Empty}
use Rattle.event.specs.declared.Fields.{Fields}
use Rattle.event.specs.Answers.{Answer}
use Rattle.event.specs.Numbers.{fields_of}
use Rattle.history.specs.Count.{count, last, first}
use Rattle.history.specs.History.{History, is}
use Rattle.history.specs.Interval.{epoch_at, last_store, back_after, fence_after, closing_fence}
use Rattle.history.specs.Transaction.{depth}
use Rattle.history.specs.Found.{lowest, lowest_pair, finding_by}
use Rattle.history.specs.Refused.{refusal_by}
use Rattle.history.specs.Given.{answer_of, after, accepted, answers, counts, reported}
use Rattle.trailer.specs.Trailer.{same_bytes, trailer_of}
use Rattle.trace.specs.Records.{records_of, events_of}
use Rattle.trace.specs.Checked.{check_from}
use Rattle.trace.specs.Layout.{records_bytes, trace_bytes}
use Rattle.verdict.specs.Verdict.{verdict_of}
use Rattle.text.specs.Text.{ascii, decimal_in}
use Rattle.text.specs.Occurs.{occurs}
use Rattle.text.proofs.Occurs.{occurs_append, decimal_lacks}
use Rattle.lines.specs.Lines.{head_line, foot_line, refusal_line}
use Rattle.finding_lines.specs.Lines.{name_of, field, values, columns, finding_line}
use Rattle.listing.specs.Report.{line_for, finding_lines, report_of}

-- address/length
infix 50 ◌/·◌
abbrev ◌/·◌ : ℕ → ℕ → Range
address /· length = record { address = address; length = length }

-- an event and its site
infix 70 ◌at◌
abbrev ◌at◌ : Event → ℕ → Record
event at site = record { event = event; site = site }

-- the events of the whole run
abbrev pub whole_run : List Record
whole_run =
    Store (0 /· 8) at 10 ∷ Store (64 /· 8) at 11 ∷ WriteBack (0 /· 8) at 12 ∷ Fence at 13 ∷ Ordered (0 /· 8) (64 /· 8) at 14 ∷
    Persisted (64 /· 8) at 15 ∷ WriteBack (0 /· 128) at 16 ∷ Fence at 17 ∷ Persisted (0 /· 128) at 18 ∷ []

-- in two lines, judged into any area that has room
pub whole_run_lem : (area : List ℕ) → 108 ≤ length area → report_of (trace_bytes [] whole_run 2) area ≡
    ascii "trace 9 events 2 lines\n" ++
    ascii "5 14 out-of-order 0 64 2 1\n" ++
    ascii "6 15 lost 64 0 6 2\n" ++
    ascii "7 16 written-twice 0 0 0 0\n" ++
    ascii "9 18 holds 0 0 0 0\n" ++
    ascii "end 4\n"
unfolding count last first is epoch_at last_store back_after fence_after closing_fence depth lowest lowest_pair finding_by refusal_by
    answer_of accepted answers reported same_bytes trailer_of records_of events_of check_from records_bytes decimal_in
    head_line field values columns finding_line foot_line finding_lines verdict_of report_of
whole_run_lem area k = rw (le-ltb (length area) 108 k)

-- range 121/8 runs past two lines
pub refused_run : (area : List ℕ) → 36 ≤ length area →
    report_of (trace_bytes [] (Store (0 /· 8) at 10 ∷ Store (120 /· 8) at 11 ∷ Store (121 /· 8) at 12 ∷ []) 2) area ≡ ascii "refused 9 at 3\n"
unfolding refusal_by same_bytes trailer_of records_of check_from records_bytes decimal_in refusal_line verdict_of report_of
refused_run area k = rw (le-ltb (length area) 36 k)

-- the line feeds of a text
abbrev pub feeds : List ℕ → ℕ
feeds s = occurs 10 s

-- a finding line has one, and a finding that is none has no line
columns_feeds : (event site : ℕ) (f : Fields) → feeds (name_of f.kind) ≡ 0 → feeds (columns event site f) ≡ 1
unfolding field values columns
columns_feeds event site f name =
    let digits : (n : ℕ) → occurs 10 (decimal_in 10 n) ≡ 0 = λ n. decimal_lacks 10 n (omega arith) in
    simp (occurs_append 10, digits, name)

line_feeds : (event : ℕ) (r : Record) (a : Answer) → feeds (line_for event r a) ≡ counts a
unfolding finding_line
line_feeds event r (Err x) = refl
line_feeds event r (Ok None) = refl
line_feeds event r (Ok Holds) = columns_feeds event r.site (fields_of Holds) refl
line_feeds event r (Ok (Lost a b c)) = columns_feeds event r.site (fields_of (Lost a b c)) refl
line_feeds event r (Ok (OutOfOrder a b c d)) = columns_feeds event r.site (fields_of (OutOfOrder a b c d)) refl
line_feeds event r (Ok (Unlogged a)) = columns_feeds event r.site (fields_of (Unlogged a)) refl
line_feeds event r (Ok (Clean a)) = columns_feeds event r.site (fields_of (Clean a)) refl
line_feeds event r (Ok (WrittenTwice a)) = columns_feeds event r.site (fields_of (WrittenTwice a)) refl
line_feeds event r (Ok (LoggedTwice a)) = columns_feeds event r.site (fields_of (LoggedTwice a)) refl
line_feeds event r (Ok Empty) = columns_feeds event r.site (fields_of Empty) refl

-- so the number in the foot is that of the finding lines
pub foot_counts : (event lines : ℕ) (h : History) (given : List Record) →
    feeds (finding_lines event given (answers lines h given)) ≡ reported (answers lines h given)
unfolding finding_lines reported answers
foot_counts event lines h [] = refl
foot_counts event lines h (r ∷ given) =
    let a = answer_of lines h r in
    let later = after a r h in
    omega (
      arith,
      occurs_append 10 (line_for event r a) (finding_lines (suc event) given (answers lines later given)),
      line_feeds event r a,
      foot_counts (suc event) lines later given,
    )
