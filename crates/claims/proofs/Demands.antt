-- The demands hold.
use Rattle.std.specs.Prelude.{Err}
use mathlib.Core.Path.{◌≡◌, refl, sym, ap, ◌∙◌}
use mathlib.Core.Logic.{◌≢◌, ◌⊎◌, inl, inr}
use mathlib.Core.List.{List, [], map}
use Prim.Native.Nat.{ℕ, ◌≤◌, ◌<◌}
use native.Mathlib.Omega.{arith}
use borrow.Author.Tests.{eq-eqb, ne_eqb, lt-ltb, le-ltb}
use Rattle.event.specs.declared.Record.{Record}
use Rattle.event.specs.declared.Finding.{Finding}
use Rattle.event.specs.declared.Refusal.{Refusal}
use Rattle.event.specs.declared.Refusal.TheVariants.{TransactionOpen}
use Rattle.event.specs.Reply.{Reply, finding_values, answer_reply}
use Rattle.window.specs.Window.{most_lines}
use Rattle.records.specs.Record.{record_of, read_reply}
use Rattle.records.proofs.RoundTrip.{read_values}
use Rattle.history.specs.Interval.{interval_of}
use Rattle.history.specs.View.{of_history}
use Rattle.history.specs.Found.{finding_by}
use Rattle.history.specs.Claim.{Claim}
use Rattle.history.specs.Transaction.{depth}
use Rattle.history.specs.Given.{window_of, RefusedBy, Accepted}
use Rattle.history.specs.Small.{SmallRun, small_runs, recorded}
use Rattle.history.proofs.Claim.{finding_claim}
use Rattle.history.proofs.Given.{whole_claim, one_run}
use Rattle.history.proofs.Exactly.{claimed as claim-of, persisted_holds, ordered_holds, end_holds}
use Rattle.history.proofs.Small.{small_runs_lem}
use Rattle.events.specs.Give.{Given}
use Rattle.events.specs.Give.{give_of}
use Rattle.engine.specs.Call.{empty_run, fresh_of, close_of}
use Rattle.engine.specs.Reply.{window_reply, given_reply, asked_reply, closing_reply}
use Rattle.exposure.specs.Exposure.{exposure_reply}
use Rattle.exposure.proofs.Meaning.{none_closed, some_closed}
use Rattle.trailer.specs.Trailer.{trailer_of}
use Rattle.trace.specs.Records.{record_part, lines_in}
use Rattle.claims.specs.After.{run_from, taken_from, replies_from}
use Rattle.claims.specs.Demand1.{Demand1}
use Rattle.claims.specs.Demand2.{Demand2}
use Rattle.claims.specs.Demand3.{Demand3}
use Rattle.claims.proofs.Paper.{persist_interval}
use Rattle.claims.proofs.Answers.{limited, tracked, same, inside, decided, refused, taken, byte_refused_lem, byte_known, closing_totals, not_refused}
use Rattle.claims.proofs.Calls.{called_after}
use Rattle.claims.proofs.Exposed.{same_exposure}
use Rattle.claims.proofs.TraceExposed.{not_a_trace, record_stops, left_open, none_exposed, some_exposed}
use Rattle.claims.proofs.Records.{read_refused_lem, read_taken_lem}
use Rattle.claims.proofs.Paging.{pages_refused_lem, damage_refused_lem, damage_decided_lem, room_refused, pages_taken_lem}
use Rattle.claims.proofs.Traces.{records_decided_lem, trailer_refused_lem, trailer_taken_lem, trace_refused_lem, record_refused_lem, trace_open_lem, trace_taken_lem}
use Rattle.claims.proofs.Singly.{given_singly}
use Rattle.claims.proofs.WriterLimits.{start_refused_lem, start_taken_lem, write_refused_lem, write_taken_lem, bytes_refused_lem, bytes_taken_lem, file_refused_lem, file_taken_lem}
use Rattle.claims.proofs.Failure.{holds_exactly, else_lost, else_out_of_order, else_end_lost}

-- a fresh window
window_refused_lem : (asked : ℕ) → (asked ≡ 0) ⊎ (most_lines < asked) →
    (window_reply (fresh_of asked) ≡ Reply.refused 4 0) × ((fresh_of asked).run ≡ empty_run 1)
window_refused_lem asked (inl z) = rw (eq-eqb asked 0 z) (refl, refl)
window_refused_lem asked (inr k) = rw (ne_eqb asked 0 (λ z. omega (arith, k, z)), lt-ltb 64 asked k) (refl, refl)

window_taken_lem : (asked : ℕ) → 1 ≤ asked → asked ≤ most_lines →
    (window_reply (fresh_of asked) ≡ Reply.values []) × ((fresh_of asked).run ≡ empty_run asked)
window_taken_lem asked low high = rw (ne_eqb asked 0 (λ z. omega (arith, low, z)), le-ltb 64 asked high) (refl, refl)

module _ (asked : ℕ) (given : List Record) where
  -- a closing
  closing_refused_lem : depth (taken_from asked given) ≢ 0 → close_of (run_from asked given) ≡ Err TransactionOpen
  closing_refused_lem d = rw ((tracked asked given).nesting, ne_eqb (depth (taken_from asked given)) 0 d)

  -- the claim of an accepted event's finding
  claimed : (r : Record) (answer : List ℕ) → given_reply (give_of (run_from asked given) r) ≡ Reply.values answer →
      (f : Finding) × (answer ≡ finding_values f) × Claim (taken_from asked given) r f
  claimed r answer e = go (decided asked given r)
    where
      go : ((x : Refusal) × RefusedBy (window_of asked) (taken_from asked given) r x) ⊎ Accepted (window_of asked) (taken_from asked given) r →
          (f : Finding) × (answer ≡ finding_values f) × Claim (taken_from asked given) r f
      go (inl (x, k)) = absurd (not_refused e (ap given_reply (refused asked given r k)))
      go (inr k) =
          let values = sym e ∙ ap answer_reply (taken asked given r k) in (
            finding_by (of_history (window_of asked) (taken_from asked given)) r.event,
            cc,
            finding_claim (window_of asked) (taken_from asked given) (inside asked given) r,
          )

-- the starred small runs: the answers of the calls are those of the accepted events, which the table's theorem computes
starred : map (λ (run : SmallRun). replies_from 2 (recorded run.given)) small_runs ≡ map (λ (run : SmallRun). map answer_reply run.answers) small_runs
starred = (λ i. map (λ (run : SmallRun). map answer_reply (same 2 (recorded run.given) i)) small_runs) ∙ ap (map (map answer_reply)) small_runs_lem

pub demand1 : Demand1
demand1 =
    record {
      decided = limited;
      window_refused = window_refused_lem;
      window_taken = window_taken_lem;
      event_numbers = λ lines h e. refl;
      event_refused = λ asked given r k. (ap given_reply (refused asked given r k), ap (λ (g : Given). g.run) (refused asked given r k));
      event_taken = λ asked given r k. (finding_by (of_history (window_of asked) (taken_from asked given)) r.event, ap answer_reply (taken asked given r k));
      byte_refused = λ asked given byte k. ap asked_reply (byte_refused_lem asked given byte k);
      byte_taken = λ asked given byte number at k e. not_refused (ap asked_reply (byte_known asked given byte k)) e;
      closing_refused = λ asked given d. ap closing_reply (closing_refused_lem asked given d);
      closing_taken = λ asked given number at d e. not_refused (ap closing_reply (closing_totals asked given d)) e;
      read_refused = read_refused_lem;
      read_taken = λ s k. ap read_reply (read_taken_lem s k) ∙ ap Reply.values (read_values s (record_of s) (read_taken_lem s k));
      trailer_refused = trailer_refused_lem;
      trailer_taken = trailer_taken_lem;
      trace_numbers = λ trace area. refl;
      trace_refused = trace_refused_lem;
      record_numbers = λ lines h s. refl;
      record_refused = record_refused_lem;
      records_decided = λ trace. records_decided_lem (lines_in trace) 1 [] (trailer_of trace).count (record_part (trailer_of trace).offset trace);
      trace_open = trace_open_lem;
      trace_taken = trace_taken_lem;
      start_numbers = λ room preamble lines. refl;
      start_refused = start_refused_lem;
      start_taken = start_taken_lem;
      write_numbers = λ room at v e. refl;
      write_refused = write_refused_lem;
      write_taken = write_taken_lem;
      bytes_numbers = λ room at v s. refl;
      bytes_refused = bytes_refused_lem;
      bytes_taken = bytes_taken_lem;
      file_numbers = λ room at depth. refl;
      file_refused = file_refused_lem;
      file_taken = file_taken_lem;
      pages_numbers = λ area. refl;
      pages_refused = pages_refused_lem;
      damage_numbers = λ before area. refl;
      damage_refused = λ area text whole d. damage_refused_lem area text whole d;
      damage_decided = damage_decided_lem;
      page_room_numbers = λ room size. refl;
      page_room_refused = λ area text whole sound k. room_refused area text whole sound k;
      pages_taken = pages_taken_lem;
      exposure_refused = λ asked given none. ap exposure_reply (same_exposure asked given ∙ none_closed (window_of asked) (interval_of (taken_from asked given)) none);
      exposure_taken = λ asked given b opening closing number at k e. not_refused
          (ap exposure_reply (same_exposure asked given) ∙ (some_closed (window_of asked) (interval_of (taken_from asked given)) b opening closing k e).1);
      exposure_file_numbers = λ trace. refl;
      exposure_file_refused = not_a_trace;
      exposure_record_refused = λ trace k t. record_stops trace k t;
      exposure_open = λ trace k t d. left_open trace k t d;
      exposure_none = λ trace k t d none. none_exposed trace k t d none;
      exposure_some = λ trace b opening closing number at k t d inside e. some_exposed trace k b opening closing number at t d inside e;
    }

pub demand2 : Demand2
demand2 =
    record {
      tables = tracked;
      intervals = λ asked given byte k. ap asked_reply (byte_known asked given byte k);
      findings = claimed;
      kinds = λ lost kept moment store. refl;
      paper = persist_interval;
    }

pub demand3 : Demand3
demand3 =
    record {
      claim = λ asked given. rw (same asked given) (whole_claim asked given);
      only = λ asked given others k. one_run k (whole_claim asked given) ∙ sym (ap (map answer_reply) (same asked given));
      persisted = λ asked given r k e. holds_exactly (taken asked given r k) (persisted_holds (window_of asked) (taken_from asked given) (inside asked given) r e);
      persisted_lost = λ asked given r k e. else_lost (taken asked given r k) (claim-of (window_of asked) (taken_from asked given) (inside asked given) r e);
      ordered = λ asked given r k e. holds_exactly (taken asked given r k) (ordered_holds (window_of asked) (taken_from asked given) (inside asked given) r e);
      ordered_out_of_order = λ asked given r k e. else_out_of_order (taken asked given r k) (claim-of (window_of asked) (taken_from asked given) (inside asked given) r e);
      ends = λ asked given r k e d s. holds_exactly (taken asked given r k) (end_holds (window_of asked) (taken_from asked given) (inside asked given) r e d s);
      ends_lost = λ asked given r k e d s. else_end_lost (taken asked given r k) (claim-of (window_of asked) (taken_from asked given) (inside asked given) r e) d s;
      totals = λ asked given d. ap closing_reply (closing_totals asked given d);
      between = λ asked calls. called_after (fresh_of asked).run calls;
      traces = given_singly;
      starred = starred;
    }
