-- The findings or the refusal in the area.
use Rattle.std.specs.Prelude.{Ok, Err}
use mathlib.Core.Path.{◌≡◌, refl, sym, ap, ◌∙◌}
use mathlib.Core.List.{List, [], ◌++◌}
use Prim.Native.Nat.{ℕ, min, ◌*◌, ◌≤◌}
use native.Mathlib.Omega.{arith}
use lib.ListN.{length, drop, length-append, length-drop}
use lib.Seq.{take_all}
use Rattle.event.specs.declared.Refusal.{Refusal}
use Rattle.event.specs.declared.Totals.{Totals}
use Rattle.event.specs.Answers.{Parsed, refused_at, totals}
use Rattle.event.proofs.Results.{same_value}
use Rattle.event.specs.Numbers.{number_of}
use Rattle.codec.specs.Codec.{finding_size}
use Rattle.history.specs.History.{History}
use Rattle.history.specs.Refused.{first_broken}
use Rattle.trace.specs.Answers.{TraceCheck}
use Rattle.trace.specs.Records.{lines_in, records_in, events_of, events_in}
use Rattle.trace.specs.Checked.{check_all}
use Rattle.verdict.specs.Verdict.{area_size, trace_limits, trace_check, history_of, answers_of, findings_bytes, verdict_for, verdict_of, area_after}
use Rattle.verdict.proofs.Order.{unless_passed}
use Rattle.verdict.proofs.Outcome.{area_stays, area_holds, all_counted}
use Rattle.verdict.proofs.Size.{findings_size}
use Rattle.text.specs.Text.{out, put}
use Rattle.text.proofs.Filled.{filled}
use Rattle.lines.specs.Lines.{refusal_line}
use Rattle.listing.proofs.Area.{AllFound, each_found, all_events}
use Rattle.reports.specs.Findings.{report_of}

-- records that each have a finding are all events
all_read : {lines : ℕ} {h : History} {records : List Parsed} → AllFound lines h records → length (events_of records) ≡ length records
unfolding events_of
all_read AllFound.done = refl
all_read (AllFound.found e rest) = omega (arith, all_read rest)

-- a text that is at the start of a slice was put there
put_there : (s d : List ℕ) {left : List ℕ} {n : ℕ} → left ≡ s ++ drop (length s) d → length s ≤ length d → n ≡ length s → out left n ≡ put s (out d 0)
put_there s d e k same =
    let all : length s ≡ min (length s) (length d) = omega arith in
    rw (e, same, filled s d, take_all (length d) s k) (ap (out _) all)

module _ (trace area : List ℕ) where
  -- the findings of an accepted trace: 12 bytes for each event, within the area
  record Taken (events : ℕ) (left : List ℕ) : Type 0 where
    bytes : left ≡ findings_bytes (events_in trace) (answers_of trace) ++ drop (area_size trace) area
    size : length (findings_bytes (events_in trace) (answers_of trace)) ≡ area_size trace
    counted : finding_size * events ≡ area_size trace

  taken : {events fences findings : ℕ} {left : List ℕ} → verdict_of trace area ≡ totals events fences findings → left ≡ area_after trace area → Taken events left
  unfolding verdict_of
  taken {events} {fences} {findings} {left} e l = go (trace_check trace area) refl e
    where
      go : (c : TraceCheck) → trace_check trace area ≡ c → verdict_for c (history_of trace) (answers_of trace) ≡ totals events fences findings → Taken events left
      go (Err r) p k = let z : ◌≡◌ {A = ℕ} 0 1 = cc in absurd (omega arith)
      go (Ok _) p k =
          let check = unless_passed (first_broken (trace_limits trace area)) 0 (check_all (lines_in trace) (records_in trace)) p in
          let same : events ≡ length (history_of trace) = ap (λ (t : Totals). t.events) (sym (same_value k)) in
          record {
            bytes = l ∙ area_holds trace area p;
            size = omega (arith, findings_size (lines_in trace) 1 [] (records_in trace) check.1, all_counted trace);
            counted = omega (arith, same, all_events trace area p, all_read (each_found trace area p), all_counted trace);
          }

  -- a refused trace leaves the area as it was
  stays : {x : Refusal} {n : ℕ} → verdict_of trace area ≡ refused_at x n → area_after trace area ≡ area
  unfolding verdict_of
  stays {x} {n} e = go (trace_check trace area) refl e
    where
      go : (c : TraceCheck) → trace_check trace area ≡ c → verdict_for c (history_of trace) (answers_of trace) ≡ refused_at x n → area_after trace area ≡ area
      go (Ok _) p k = let z : ◌≡◌ {A = ℕ} 0 1 = cc in absurd (omega arith)
      go (Err r) p k = area_stays trace area p

  -- the refusal is put
  pub refusal_put : {x : Refusal} {n number next : ℕ} {after left : List ℕ} → verdict_of trace area ≡ refused_at x n → number ≡ number_of x →
      left ≡ area_after trace area → out after next ≡ put (refusal_line number n) (out left 0) → out after next ≡ put (report_of trace area) (out area 0)
  unfolding report_of
  refusal_put e k l p = rw (e, ← k) (rw (l, stays e) at p)

  -- the findings are there
  pub findings_put_lem : {events fences findings n : ℕ} {left : List ℕ} → verdict_of trace area ≡ totals events fences findings → left ≡ area_after trace area →
      length left ≡ length area → n ≡ 12 * events → out left n ≡ put (report_of trace area) (out area 0)
  unfolding report_of
  findings_put_lem {left = left} e l same k =
      let t = taken e l in
      let s = findings_bytes (events_in trace) (answers_of trace) in
      let long = ap length t.bytes ∙ length-append s (drop (area_size trace) area) in
      rw e
      (put_there s area (rw t.size t.bytes) (omega (arith, same, long, length-drop (area_size trace) area, t.size)) (omega (arith, k, t.size, t.counted)))
