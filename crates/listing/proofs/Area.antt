-- The findings area of an accepted trace: the lines that are read off it are those of the trace's events.
use Rattle.std.specs.Prelude.{Ok, Err}
use mathlib.Core.Path.{◌≡◌, refl, sym, ap, ap₂, ◌∙◌}
use mathlib.Core.List.{List, [], ◌∷◌, ◌++◌, append_assoc}
use Prim.Native.Nat.{ℕ, suc, ◌+◌, ◌*◌, ◌≤◌}
use native.Mathlib.Omega.{arith}
use lib.Dec.{eqb}
use lib.ListN.{length, drop, get_or, length-append}
use lib.Seq.{get_or-append-add}
use borrow.Author.Tests.{not-false, eqb-true, ltb-false}
use Rattle.event.specs.declared.Record.{Record}
use Rattle.event.specs.declared.Finding.{Finding}
use Rattle.event.specs.Answers.{Parsed}
use Rattle.event.specs.Numbers.{fields_of}
use Rattle.codec.specs.Codec.{u16_at, finding_bytes, fields_at, finding_size}
use Rattle.codec.proofs.Meaning.{u16_round_trip}
use Rattle.history.specs.History.{History}
use Rattle.history.specs.View.{of_history}
use Rattle.history.specs.Refused.{first_broken, NoneBroken, refusal_by}
use Rattle.history.specs.Found.{finding_by}
use Rattle.history.specs.Given.{answer_of, accepted, answers}
use Rattle.limits.proofs.Passed.{passed_unbroken}
use Rattle.trailer.specs.declared.Trailer.{Trailer}
use Rattle.window.specs.Window.{most_lines}
use Rattle.trailer.specs.Trailer.{most_bytes, trailer_of, end_of}
use Rattle.trailer.proofs.Lines.{window_lines, few_lines}
use Rattle.trace.specs.Records.{record_part, events_of, lines_in, records_in, events_in}
use Rattle.trace.specs.Checked.{check_from, check_all}
use Rattle.trace.proofs.RecordsNext.{records_counted}
use Rattle.verdict.specs.Verdict.{findings_bytes, area_size, trace_limits, trace_check, history_of, answers_of, area_after}
use Rattle.verdict.proofs.Order.{unless_passed}
use Rattle.verdict.proofs.Outcome.{area_holds}
use Rattle.finding_lines.specs.Lines.{finding_line}
use Rattle.finding_lines.specs.Area.{line_at, lines_from}
use Rattle.listing.specs.Report.{finding_lines}

-- what is read after other bytes
module _ (before s : List ℕ) (n : ℕ) (e : length before ≡ n) where
  pub byte_after : (i : ℕ) → get_or (before ++ s) (n + i) 0 ≡ get_or s i 0
  byte_after i = rw (← e) (get_or-append-add before s i 0)

  u16_after : (i : ℕ) → u16_at (before ++ s) (n + i) ≡ u16_at s i
  u16_after i = let place : n + i + 1 ≡ n + (i + 1) = omega arith in rw (place, byte_after i, byte_after (i + 1))

  fields_after : fields_at (before ++ s) n ≡ fields_at s 0
  fields_after =
      let place : n ≡ n + 0 = omega arith in
      let kind : get_or (before ++ s) n 0 ≡ get_or s 0 0 = ap (λ (i : ℕ). get_or (before ++ s) i 0) place ∙ byte_after 0 in
      rw (kind, u16_after 2, u16_after 4, u16_after 6, u16_after 8)

-- a finding's fields are read off its bytes
fields_read : (f : Finding) (site : ℕ) (rest : List ℕ) → fields_at (finding_bytes f site ++ rest) 0 ≡ fields_of f
fields_read f site rest = simp u16_round_trip

-- so the line is that of the finding whose bytes stand at its place
line_read : (before : ℕ) (bytes : List ℕ) (f : Finding) (site : ℕ) (rest : List ℕ) → length bytes ≡ finding_size * before →
    line_at before (bytes ++ (finding_bytes f site ++ rest)) ≡ finding_line (suc before) site (fields_of f)
line_read before bytes f site rest e =
    ap₂ (finding_line (suc before))
    (u16_after bytes (finding_bytes f site ++ rest) (finding_size * before) e 10 ∙ u16_round_trip site)
    (fields_after bytes (finding_bytes f site ++ rest) (finding_size * before) e ∙ fields_read f site rest)

-- records that are events, each with a finding after the history and those before it
pub data AllFound (lines : ℕ) : History → List Parsed → Type 0 where
  done : {h : History} → AllFound lines h []
  found : {h : History} {r : Record} {f : Finding} {rest : List Parsed} →
      answer_of lines h r ≡ Ok f → AllFound lines (r ∷ h) rest → AllFound lines h (Ok r ∷ rest)

-- those that are not refused are
all_found : (lines n : ℕ) (h : History) (records : List Parsed) → check_from lines n h records ≡ (Ok tt) → AllFound lines h records
unfolding check_from answer_of
all_found lines n h [] e = AllFound.done
all_found lines n h (Err x ∷ rest) e = let z : ◌≡◌ {A = ℕ} 0 1 = cc in absurd (omega arith)
all_found lines n h (Ok r ∷ rest) e =
    let passes = unless_passed (refusal_by (of_history lines h) r.event) n (check_from lines (suc n) (r ∷ h) rest) e in
    let answer : answer_of lines h r ≡ Ok (finding_by (of_history lines h) r.event) = rw passes.0 in
    AllFound.found answer (all_found lines (suc n) (r ∷ h) rest passes.1)

-- so all their events are accepted
all_accepted : {lines : ℕ} {h : History} {records : List Parsed} → AllFound lines h records →
    length (accepted lines h (events_of records)) ≡ length h + length (events_of records)
unfolding events_of accepted
all_accepted AllFound.done = omega arith
all_accepted (AllFound.found e rest) = rw (e, accepted) (omega (arith, all_accepted rest))

-- and where their findings stand after those of as many events as there are before, their lines are read
pub lines_read : {lines : ℕ} {h : History} {records : List Parsed} → AllFound lines h records →
    (before : ℕ) (bytes after : List ℕ) → length bytes ≡ finding_size * before →
    let given = events_of records in
    lines_from before (length given) (bytes ++ (findings_bytes given (answers lines h given) ++ after)) ≡
    finding_lines (suc before) given (answers lines h given)
unfolding events_of answers findings_bytes lines_from finding_lines
lines_read AllFound.done before bytes after k = refl
lines_read {lines} {h} (AllFound.found {r = r} {f = f} {rest = others} e rest) before bytes after k =
    let given = events_of others in
    let more = findings_bytes given (answers lines (r ∷ h) given) ++ after in
    let one = finding_bytes f r.site in
    let size : length (bytes ++ one) ≡ finding_size * suc before = omega (arith, length-append bytes one) in
    rw (e, answers)
    (ap₂ (λ (line others : List ℕ). line ++ others) (line_read before bytes f r.site more k)
    (ap (lines_from (suc before) (length given)) (sym (append_assoc bytes one more)) ∙
    lines_read rest (suc before) (bytes ++ one) after size))

-- there are at most as many events as records
few_events : (records : List Parsed) → length (events_of records) ≤ length records
unfolding events_of
few_events [] = omega arith
few_events (Ok r ∷ rest) = omega (arith, few_events rest)
few_events (Err x ∷ rest) = omega (arith, few_events rest)

module _ (trace area : List ℕ) (accepts : trace_check trace area ≡ (Ok tt)) where
  -- no limit is broken, and no record is refused
  both_pass : (first_broken (trace_limits trace area) ≡ (Ok tt)) × (check_all (lines_in trace) (records_in trace) ≡ (Ok tt))
  both_pass = unless_passed (first_broken (trace_limits trace area)) 0 (check_all (lines_in trace) (records_in trace)) accepts

  -- every event has a finding
  pub each_found : AllFound (lines_in trace) [] (records_in trace)
  each_found = all_found (lines_in trace) 1 [] (records_in trace) both_pass.1

  pub all_events : length (history_of trace) ≡ length (events_in trace)
  all_events = omega (arith, all_accepted each_found)

  -- the lines that the code reads off the area are those of the events
  pub area_lines : lines_from 0 (length (history_of trace)) (area_after trace area) ≡ finding_lines 1 (events_in trace) (answers_of trace)
  area_lines = rw (area_holds trace area accepts, all_events) (lines_read each_found 0 [] (drop (area_size trace) area) refl)

  -- there are at most 5,460 of them: 12 bytes each, and 16 for the trailer, in 65,536
  pub events_few : length (events_in trace) ≤ 5460
  events_few = go (passed_unbroken (trace_limits trace area) both_pass.0)
    where
      t : Trailer
      t = trailer_of trace

      go : NoneBroken (trace_limits trace area) → length (events_in trace) ≤ 5460
      go (NoneBroken.cons a (NoneBroken.cons b (NoneBroken.cons c (NoneBroken.cons d (NoneBroken.cons e f))))) =
          let short : length trace ≤ most_bytes = ltb-false most_bytes (length trace) b in
          let ends : end_of t ≡ length trace = eqb-true (end_of t) (length trace) (not-false (eqb (end_of t) (length trace)) e) in
          omega (arith, few_events (records_in trace), records_counted t.count (record_part t.offset trace))

  -- in a window of at most 64 lines
  pub lines_few : lines_in trace ≤ most_lines
  lines_few = go (passed_unbroken (trace_limits trace area) both_pass.0)
    where
      go : NoneBroken (trace_limits trace area) → lines_in trace ≤ most_lines
      go (NoneBroken.cons a (NoneBroken.cons b (NoneBroken.cons c (NoneBroken.cons d e)))) = few_lines (lines_in trace) (window_lines (trailer_of trace) d)
