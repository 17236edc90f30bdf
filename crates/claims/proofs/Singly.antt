-- An accepted trace: its findings area and its totals are those of its events given singly.
use Rattle.std.specs.Prelude.{Ok, Err}
use mathlib.Core.Path.{◌≡◌, sym, ap, ◌∙◌, subst}
use mathlib.Core.Bool.{Bool, cond}
use mathlib.Core.Logic.{inl, inr}
use mathlib.Core.List.{List, [], ◌∷◌, ◌++◌, map}
use Prim.Native.Nat.{ℕ, ◌*◌, ◌≤◌}
use native.Mathlib.Decide.{ℕ_discrete as dec_eq}
use native.Mathlib.Omega.{arith}
use lib.ListN.{length, take, drop, length-append, length-drop}
use lib.Seq.{drop_at}
use borrow.Author.Tests.{ltb-false}
use Rattle.event.specs.declared.Record.{Record}
use Rattle.event.specs.declared.Refusal.TheVariants.{BadLines}
use Rattle.event.specs.Answers.{Check, totals}
use Rattle.event.specs.declared.Finding.{Finding}
use Rattle.event.specs.Reply.{Reply, check_reply, finding_values, answer_reply}
use Rattle.codec.specs.Codec.{finding_bytes, finding_size}
use Rattle.window.specs.Window.{lines_check}
use Rattle.history.specs.History.{History}
use Rattle.history.specs.Interval.{epoch_at}
use Rattle.history.specs.Transaction.{depth}
use Rattle.history.specs.View.{of_history}
use Rattle.history.specs.Refused.{NoneBroken}
use Rattle.history.specs.Found.{finding_by}
use Rattle.history.specs.Given.{window_for, window_of, Accepted, accepted, answers, reported}
use Rattle.events.specs.Give.{give_of}
use Rattle.engine.specs.Call.{close_of}
use Rattle.engine.specs.Reply.{given_reply, closing_reply}
use Rattle.trailer.specs.Trailer.{trailer_of}
use Rattle.trace.specs.Records.{record_part, lines_in, records_in, events_in}
use Rattle.trailer.proofs.Lines.{window_lines}
use Rattle.trace.proofs.RecordsNext.{records_counted}
use Rattle.verdict.specs.Verdict.{area_size, trace_limits, trace_check, history_of, answers_of, verdict_of, verdict_reply, findings_bytes, area_after}
use Rattle.verdict.proofs.Outcome.{totalled, area_holds}
use Rattle.verdict.proofs.Size.{findings_size}
use Rattle.claims.specs.After.{run_from}
use Rattle.claims.specs.Traces.{TakesAll, GivenSingly}
use Rattle.claims.proofs.Answers.{Limited, limited, not_refused, same, taken, closing_totals}
use Rattle.claims.proofs.Records.{Accepts, takes_accepts}
use Rattle.claims.proofs.Traces.{Decided, records_decided_lem, trace_refused_lem, record_refused_lem, trace_open_lem, records_pass, trace_passed}
use Rattle.claims.proofs.Area.{accepts_events, accepts_accepted, placed}

module _ (lines : ℕ) (passed : lines_check lines ≡ (Ok tt)) where
  -- a window that is not refused has the lines asked for
  pub asked_lines : window_of lines ≡ lines
  asked_lines = ap (λ (c : Check). window_for c lines) passed

  -- so the accepted events in that many lines give the finding of an event and the totals
  singly_found : (before : List Record) (r : Record) → Accepted lines (accepted lines [] before) r →
      (give_of (run_from lines before) r).answer ≡ Ok (finding_by (of_history lines (accepted lines [] before)) r.event)
  singly_found before r =
      subst
      (λ (w : ℕ). Accepted w (accepted w [] before) r →
      (give_of (run_from lines before) r).answer ≡ Ok (finding_by (of_history w (accepted w [] before)) r.event))
      asked_lines
      (taken lines before r)

  singly_totals : (given : List Record) → let h = accepted lines [] given in depth h ≡ 0 →
      close_of (run_from lines given) ≡ totals (length h) (epoch_at h (length h)) (reported (answers lines [] given))
  singly_totals given =
      subst
      (λ (w : ℕ). let h = accepted w [] given in depth h ≡ 0 →
      close_of (run_from lines given) ≡ totals (length h) (epoch_at h (length h)) (reported (answers w [] given)))
      asked_lines
      (λ d. closing_totals lines given d ∙ (rw (same lines given)))

-- no limit is broken, the records are all taken, and no transaction is open then
pub record AllTaken (trace area : List ℕ) : Type 0 where
  pub limits : NoneBroken (trace_limits trace area)
  pub history : History
  pub takes : TakesAll trace history
  pub closed : depth history ≡ 0

-- so it is with an accepted trace
pub all_taken : (trace area totals : List ℕ) → verdict_reply (verdict_of trace area) ≡ Reply.values totals → AllTaken trace area
all_taken trace area totals e = go (limited (trace_limits trace area)) (records_decided_lem (lines_in trace) 1 [] _ _)
  where
    close : (h : History) → NoneBroken (trace_limits trace area) → TakesAll trace h → Dec (depth h ≡ 0) → AllTaken trace area
    close h k t (yes d) = record { limits = k; history = h; takes = t; closed = d }
    close h k t (no d) = absurd (not_refused e (trace_open_lem trace area k t d).0)

    go : Limited (trace_limits trace area) → Decided (lines_in trace) 1 [] (trailer_of trace).count (record_part (trailer_of trace).offset trace) →
        AllTaken trace area
    go (inl (x, k)) more = absurd (not_refused e (trace_refused_lem trace area k).0)
    go (inr k) (inl (x, n, s)) = absurd (not_refused e (record_refused_lem trace area k s).0)
    go (inr k) (inr (h, t)) = close h k t (dec_eq (depth h) 0)

-- limit 4 is not broken: the window is not refused
pub window_passed : (trace area : List ℕ) → NoneBroken (trace_limits trace area) → lines_check (lines_in trace) ≡ Ok tt
window_passed trace area (NoneBroken.cons a (NoneBroken.cons b (NoneBroken.cons c (NoneBroken.cons d e)))) =
    ap (λ (t : Bool). cond t (Err BadLines) (Ok tt)) (window_lines (trailer_of trace) d)

-- limit 14 is not broken: the area is large enough
area_fits : (trace area : List ℕ) → NoneBroken (trace_limits trace area) → area_size trace ≤ length area
area_fits trace area (NoneBroken.cons a (NoneBroken.cons b (NoneBroken.cons c (NoneBroken.cons d (NoneBroken.cons e (NoneBroken.cons f g)))))) =
    ltb-false (length area) (area_size trace) f

module _ (trace area : List ℕ) (t : AllTaken trace area) where
  -- nothing refuses the trace
  passes : trace_check trace area ≡ Ok tt
  passes = trace_passed trace area t.limits t.takes t.closed

  -- its records are read and accepted
  accepts : Accepts (lines_in trace) [] (records_in trace) t.history
  accepts = takes_accepts t.takes

  -- their findings take 12 × count bytes
  bytes_size : length (findings_bytes (events_in trace) (answers_of trace)) ≡ area_size trace
  bytes_size =
      findings_size (lines_in trace) 1 [] (records_in trace) (records_pass trace area t.takes t.closed) ∙
      ap (λ (n : ℕ). finding_size * n) (records_counted (trailer_of trace).count (record_part (trailer_of trace).offset trace))

  -- the area's length and the bytes beyond do not change
  area_size_lem : length (area_after trace area) ≡ length area
  area_size_lem =
      let fits = area_fits trace area t.limits in
      rw (area_holds trace area passes, length-append, length-drop, bytes_size) (omega arith)

  area_beyond : drop (area_size trace) (area_after trace area) ≡ drop (area_size trace) area
  area_beyond =
      rw (area_holds trace area passes) (drop_at (findings_bytes (events_in trace) (answers_of trace)) (drop (area_size trace) area) (area_size trace) bytes_size)

  -- each finding stands at its event's place
  area_finding : (before rest : List Record) (r : Record) → events_in trace ≡ before ++ r ∷ rest →
      (f : Finding) × (given_reply (give_of (run_from (lines_in trace) before) r) ≡ Reply.values (finding_values f)) ×
      (take finding_size (drop (finding_size * length before) (area_after trace area)) ≡ finding_bytes f r.site)
  area_finding before rest r e =
      let events : records_in trace ≡ map Ok (before ++ r ∷ rest) = accepts_events accepts ∙ ap (map Ok) e in
      let p = placed before rest r (drop (area_size trace) area) (rw events at accepts) in (
        finding_by (of_history (lines_in trace) (accepted (lines_in trace) [] before)) r.event,
        ap answer_reply (singly_found (lines_in trace) (window_passed trace area t.limits) before r p.takes),
        rw (area_holds trace area passes, e) p.bytes,
      )

  -- the totals are those of closing
  area_totals : closing_reply (close_of (run_from (lines_in trace) (events_in trace))) ≡ verdict_reply (verdict_of trace area)
  area_totals =
      let closed : depth (history_of trace) ≡ 0 = ap depth (accepts_accepted accepts) ∙ t.closed in
      ap closing_reply (singly_totals (lines_in trace) (window_passed trace area t.limits) (events_in trace) closed) ∙
      sym (ap verdict_reply (totalled trace area passes))

-- the findings and the totals of an accepted trace
pub given_singly : (trace area totals : List ℕ) → verdict_reply (verdict_of trace area) ≡ Reply.values totals → GivenSingly trace area totals
given_singly trace area totals e =
    let t = all_taken trace area totals e in
    record {
      records = accepts_events (accepts trace area t);
      window = ap check_reply (window_passed trace area t.limits);
      finding = area_finding trace area t;
      beyond = area_beyond trace area t;
      size = area_size_lem trace area t;
      closing = area_totals trace area t ∙ e;
    }
