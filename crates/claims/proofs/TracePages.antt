-- The findings that the judge leaves of an accepted trace, laid out on pages: they are not damaged, and the pages show the listing's rows.
use Rattle.std.specs.Prelude.{Ok, Err}
use mathlib.Core.Path.{◌≡◌, refl, sym, ap, ◌∙◌, subst, subst₂}
use mathlib.Core.Bool.{false, not}
use mathlib.Core.List.{List, [], ◌∷◌, ◌++◌, map, append_assoc, append-nil}
use Prim.Native.Nat.{ℕ, zero, suc, ◌+◌, ◌*◌, ◌%◌, ◌≤◌, ◌<◌}
use native.Mathlib.Omega.{arith}
use lib.Dec.{eqb, ltb}
use lib.ListN.{length, take, drop, get_or, length-append}
use lib.Seq.{take_at}
use borrow.Author.Tests.{le-ltb, lt-ltb, eq-eqb}
use Rattle.event.specs.declared.Finding.{Finding}
use Rattle.event.specs.Answers.{Parsed}
use Rattle.event.specs.Numbers.{fields_of}
use Rattle.event.specs.Reply.{Reply}
use Rattle.codec.specs.Codec.{finding_size, finding_bytes}
use Rattle.history.specs.History.{History}
use Rattle.history.specs.Refused.{First, NoneBroken, most_events}
use Rattle.history.specs.Given.{answers, reported}
use Rattle.trace.specs.Answers.{TraceCheck}
use Rattle.trace.specs.Records.{events_of, lines_in, records_in, events_in}
use Rattle.verdict.specs.Verdict.{area_size, findings_bytes, trace_check, history_of, answers_of, verdict_for, verdict_of, verdict_reply, area_after}
use Rattle.verdict.proofs.Outcome.{area_holds}
use Rattle.text.specs.Cut.{cut}
use Rattle.lines.specs.Lines.{head_line, foot_line}
use Rattle.lines.proofs.Cuts.{head_cut, foot_cut}
use Rattle.finding_lines.specs.Rows.{rows_from}
use Rattle.finding_lines.specs.Area.{line_of, lines_from}
use Rattle.finding_lines.proofs.Listed.{lines_cut}
use Rattle.listing.specs.Report.{finding_lines, report_for, report_of}
use Rattle.listing.proofs.Area.{byte_after, AllFound, lines_read, each_found, events_few}
use Rattle.page_lines.proofs.Columns.{row_line_lem, heading_line, foot_line_lem}
use Rattle.page_layout.specs.Pages.{findings_in, shown_in, pages_of}
use Rattle.page_layout.specs.Printed.{inner}
use Rattle.page_layout.proofs.Printed.{inner_between}
use Rattle.pages.specs.Limits.{bad_length, whole_limits, damage_limits}
use Rattle.pages.proofs.Whole.{few_findings}
use Rattle.claims.specs.Paging.{NoneDamaged}
use Rattle.claims.specs.FindingsPaged.{Printed, TracePaged, FindingsPaged}
use Rattle.claims.proofs.Fits.{kind_known, findings_bytes_lem}
use Rattle.claims.proofs.Paging.{room_refused, pages_taken_lem}
use Rattle.claims.proofs.Paged.{kind_shown, pages_rounded, is_printed_lem}

-- the findings of events that all have one: 12 bytes each
found_size : {lines : ℕ} {h : History} {records : List Parsed} → AllFound lines h records → let given = events_of records in
    length (findings_bytes given (answers lines h given)) ≡ finding_size * length given
unfolding events_of answers findings_bytes
found_size AllFound.done = refl
found_size (AllFound.found e rest) = rw (e, answers) (omega (arith, found_size rest))

-- a finding that stands after others is not damaged
one_sound : (before : ℕ) (bytes : List ℕ) (f : Finding) (site : ℕ) (rest : List ℕ) → length bytes ≡ finding_size * before →
    NoneBroken (damage_limits before (bytes ++ (finding_bytes f site ++ rest)))
one_sound before bytes f site rest e =
    let s = finding_bytes f site ++ rest in
    let start : finding_size * before ≡ finding_size * before + 0 = omega arith in
    let kind : get_or (bytes ++ s) (finding_size * before) 0 ≡ (fields_of f).kind =
    ap (λ (i : ℕ). get_or (bytes ++ s) i 0) start ∙ byte_after bytes s (finding_size * before) e 0 in
    let zeros : get_or (bytes ++ s) (finding_size * before + 1) 0 ≡ 0 = byte_after bytes s (finding_size * before) e 1 in
    NoneBroken.cons (ap (ltb 8) kind ∙ kind_known f) (NoneBroken.cons (ap (λ (b : ℕ). not (eqb b 0)) zeros) NoneBroken.nil)

all_sound : {lines : ℕ} {h : History} {records : List Parsed} → AllFound lines h records →
    (before : ℕ) (bytes after : List ℕ) → length bytes ≡ finding_size * before → let given = events_of records in
    (i : ℕ) → i < length given → NoneBroken (damage_limits (before + i) (bytes ++ (findings_bytes given (answers lines h given) ++ after)))
unfolding events_of answers findings_bytes
all_sound AllFound.done before bytes after e i k = absurd (omega arith)
all_sound {lines} {h} (AllFound.found {r = r} {f = f} {rest = others} found rest) before bytes after e zero k =
    let given = events_of others in
    let more = findings_bytes given (answers lines (r ∷ h) given) ++ after in
    let here : before ≡ before + 0 = omega arith in
    rw (found, answers)
    (subst (λ (n : ℕ). NoneBroken (damage_limits n (bytes ++ (finding_bytes f r.site ++ more)))) here (one_sound before bytes f r.site more e))
all_sound {lines} {h} (AllFound.found {r = r} {f = f} {rest = others} found rest) before bytes after e (suc i) k =
    let given = events_of others in
    let more = findings_bytes given (answers lines (r ∷ h) given) ++ after in
    let one = finding_bytes f r.site in
    let size : length (bytes ++ one) ≡ finding_size * suc before = omega (arith, length-append bytes one) in
    let next : suc before + i ≡ before + suc i = omega arith in
    rw (found, answers)
    (subst₂ (λ (n : ℕ) (s : List ℕ). NoneBroken (damage_limits n s)) next (append_assoc bytes one more)
    (all_sound rest (suc before) (bytes ++ one) after size i (omega arith)))

module _ (trace area totals : List ℕ) (accepted : verdict_reply (verdict_of trace area) ≡ Reply.values totals) where
  passes : trace_check trace area ≡ Ok tt
  unfolding verdict_of
  passes = go (trace_check trace area) refl accepted
    where
      go : (c : TraceCheck) → trace_check trace area ≡ c → verdict_reply (verdict_for c (history_of trace) (answers_of trace)) ≡ Reply.values totals →
          trace_check trace area ≡ Ok tt
      go (Ok _) e k = e
      go (Err r) e k = let z : ◌≡◌ {A = ℕ} 0 1 = cc in absurd (omega arith)

  found : AllFound (lines_in trace) [] (records_in trace)
  found = each_found trace area passes

  -- how many events there are, and the findings of them
  abbrev count : ℕ
  count = length (events_in trace)

  abbrev left : List ℕ
  left = findings_bytes (events_in trace) (answers_of trace)

  size : length left ≡ finding_size * count
  size = found_size found

  all_counted : findings_in left ≡ count
  all_counted = omega (arith, size)

  few : findings_in left ≤ 65535
  few = omega (arith, all_counted, events_few trace area passes)

  -- the area starts with these
  findings_there : take (finding_size * count) (area_after trace area) ≡ left
  findings_there = ap (take (finding_size * count)) (area_holds trace area passes) ∙ take_at left (drop (area_size trace) area) (finding_size * count) size

  -- they are neither too many nor damaged
  whole : NoneBroken (whole_limits left)
  whole =
      let rest : length left % finding_size ≡ 0 = omega (arith, size) in
      let bad : bad_length left ≡ false = rw (eq-eqb (length left % finding_size) 0 rest, le-ltb most_events (findings_in left) few) in
      NoneBroken.cons bad NoneBroken.nil

  sound : NoneDamaged (findings_in left) left
  sound i k =
      let first : 0 + i ≡ i = omega arith in
      subst₂ (λ (n : ℕ) (s : List ℕ). NoneBroken (damage_limits n s)) first (append-nil left)
      (all_sound found 0 [] [] refl i (omega (arith, all_counted)))

  -- the listing, cut: head, a line for each finding that is shown, and foot
  lines_same : finding_lines 1 (events_in trace) (answers_of trace) ≡ lines_from 0 count left
  lines_same = sym (lines_read found 0 [] [] refl) ∙ ap (lines_from 0 count) (append-nil left)

  report_cut : inner (cut (report_of trace area)) ≡ map line_of (shown_in left)
  unfolding cut report_of
  report_cut =
      let head = head_line (length (history_of trace)) (lines_in trace) in
      let lines = finding_lines 1 (events_in trace) (answers_of trace) in
      let foot = foot_line (reported (answers_of trace)) in
      let rows = rows_from 0 count left in
      let foot_alone : cut foot ≡ foot ∷ [] = ap cut (sym (append-nil foot)) ∙ foot_cut (reported (answers_of trace)) [] in
      let between : cut (lines ++ foot) ≡ map line_of rows ++ foot ∷ [] =
      ap (λ (s : List ℕ). cut (s ++ foot)) lines_same ∙ lines_cut 0 count left foot ∙ ap (λ (l : List (List ℕ)). map line_of rows ++ l) foot_alone in
      let all : cut (report_of trace area) ≡ head ∷ map line_of rows ++ foot ∷ [] =
      ap (λ (r : Reply). cut (report_for r trace)) accepted ∙ ap cut (append_assoc head lines foot) ∙
      head_cut (length (history_of trace)) (lines_in trace) (lines ++ foot) ∙ ap (λ (l : List (List ℕ)). head ∷ l) between in
      ap inner all ∙ inner_between head foot (map line_of rows) ∙ ap (λ (n : ℕ). map line_of (rows_from 0 n left)) (sym all_counted)

  -- so it is with the findings that the judge left
  left_paged : ((i : ℕ) → get_or trace i 0 < 256) → TracePaged trace area left
  left_paged bytes =
      record {
        taken = λ pages room. (pages_taken_lem left pages whole sound (NoneBroken.cons (le-ltb (length pages) (length (pages_of left)) room) NoneBroken.nil)).0;
        short = λ pages less. (room_refused left pages whole sound (First.here (lt-ltb (length pages) (length (pages_of left)) less))).0;
        listing = (is_printed_lem left (findings_bytes_lem trace area passes bytes) few).listed ∙ sym report_cut;
      }

trace_paged : (trace area totals : List ℕ) → ((i : ℕ) → get_or trace i 0 < 256) → verdict_reply (verdict_of trace area) ≡ Reply.values totals →
    TracePaged trace area (take (finding_size * length (events_in trace)) (area_after trace area))
trace_paged trace area totals bytes accepted =
    subst (TracePaged trace area) (sym (findings_there trace area totals accepted)) (left_paged trace area totals accepted bytes)

printed : (area : List ℕ) → ((i : ℕ) → get_or area i 0 < 256) → NoneBroken (whole_limits area) → Printed area
printed area small (NoneBroken.cons e k) = is_printed_lem area small (few_findings area e)

pub findings_paged : FindingsPaged
findings_paged =
    record {
      row = row_line_lem;
      headings = heading_line;
      feet = foot_line_lem;
      shown = kind_shown;
      hidden = refl;
      none = refl;
      rounded = pages_rounded;
      printed = printed;
      traces = trace_paged;
    }
