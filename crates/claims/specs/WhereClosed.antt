-- Request 7: where an interval closed. What the answer of a byte asked names, and that epochs, exposure and findings keep their values.
use Rattle.std.specs.Prelude.{◌≡◌, true, not, ◌&&◌, ◌||◌, ◌≢◌, List, [], ◌∷◌, ℕ, ◌<◌, eqb, ltb}
use Rattle.event.specs.declared.NamedInterval.TheVariants.{Open, Closed}
use Rattle.event.specs.declared.Record.{Record}
use Rattle.event.specs.Reply.{Reply, interval_values}
use Rattle.window.specs.Window.{window_bytes, line_of}
use Rattle.history.specs.History.{History, is, fences, stores_byte, writes_back_line}
use Rattle.history.specs.Interval.{epoch_at, last_store, back_after, interval_of, closing_fence, named_of}
use Rattle.history.specs.Found.{at_risk, breaks}
use Rattle.history.specs.ByEpochs.{risk_by_epochs, breaks_by_epochs}
use Rattle.history.specs.Given.{window_of}
use Rattle.tables.specs.Run.{Run}
use Rattle.tables.specs.Table.{entry}
use Rattle.tables.specs.View.{of_run}
use Rattle.events.specs.Give.{give_of, bare, bare_given}
use Rattle.engine.specs.Call.{ask_of}
use Rattle.engine.specs.Reply.{asked_reply}
use Rattle.trace.specs.Records.{lines_in, records_in, events_in}
use Rattle.verdict.specs.Verdict.{history_of, verdict_of, verdict_reply}
use Rattle.trace_interval.specs.TraceInterval.{site_in, site_of_event, with_sites, trace_interval_of, trace_interval_reply}
use Rattle.claims.specs.After.{run_from, taken_from}

-- the answer of a byte asked with its three events dropped: of an open interval the epoch is left, of a closed one both epochs are
abbrev pub epochs_answered : Reply → Reply
epochs_answered (Reply.refused number at) = Reply.refused number at
epochs_answered (Reply.values []) = Reply.values []
epochs_answered (Reply.values (a ∷ [])) = Reply.values (a ∷ [])
epochs_answered (Reply.values (a ∷ b ∷ [])) = Reply.values (a ∷ b ∷ [])
epochs_answered (Reply.values (opened ∷ store ∷ back ∷ [])) = Reply.values (opened ∷ [])
epochs_answered (Reply.values (a ∷ b ∷ c ∷ d ∷ [])) = Reply.values (a ∷ b ∷ c ∷ d ∷ [])
epochs_answered (Reply.values (opened ∷ closed ∷ store ∷ back ∷ fence ∷ more)) = Reply.values (opened ∷ closed ∷ more)

-- event n is one of the byte's line: a store of the byte, a write-back of the line, a fence
abbrev pub Stores : History → ℕ → ℕ → Type 0
Stores h b n = is (stores_byte b) h n ≡ true

abbrev pub WritesBack : History → ℕ → ℕ → Type 0
WritesBack h b n = is (writes_back_line (line_of b)) h n ≡ true

abbrev pub Fences : History → ℕ → Type 0
Fences h n = is fences h n ≡ true

-- no event between these two is a store of the byte, or a write-back of its line, or a fence
abbrev pub NoneBetween : (ℕ → Type 0) → ℕ → ℕ → Type 0
NoneBetween P m n = (i : ℕ) → m < i → i < n → P i → ⊥

pub record WhereClosed : Type 0 where
  -- a byte of the window asked after every list of events: nothing where it was never stored to
  pub none : (asked : ℕ) (given : List Record) (byte : ℕ) → byte < window_bytes (window_of asked) → let h = taken_from asked given in
      last_store h byte ≡ 0 → asked_reply (ask_of (run_from asked given) byte) ≡ Reply.values []
  -- open: the epoch, and the events of the last store and of the first write-back of the line after it, 0 if none yet
  pub opens : (asked : ℕ) (given : List Record) (byte : ℕ) → byte < window_bytes (window_of asked) →
      let h = taken_from asked given in let s = last_store h byte in s ≢ 0 → closing_fence h byte ≡ 0 →
      asked_reply (ask_of (run_from asked given) byte) ≡ Reply.values (epoch_at h s ∷ s ∷ back_after h (line_of byte) s ∷ [])
  -- closed: both epochs, and the events of the last store, of that write-back and of the fence
  pub closes : (asked : ℕ) (given : List Record) (byte : ℕ) → byte < window_bytes (window_of asked) →
      let h = taken_from asked given in let s = last_store h byte in let f = closing_fence h byte in s ≢ 0 → f ≢ 0 →
      asked_reply (ask_of (run_from asked given) byte) ≡ Reply.values (epoch_at h s ∷ epoch_at h f ∷ s ∷ back_after h (line_of byte) s ∷ f ∷ [])
  -- what an answer names, over the accepted events: the last store of the byte
  pub store : (h : History) (b : ℕ) → last_store h b ≢ 0 → Stores h b (last_store h b) × ((i : ℕ) → last_store h b < i → Stores h b i → ⊥)
  -- the first write-back of its line after it; 0 where there is none
  pub back : (h : History) (b opened store back : ℕ) → named_of h b ≡ Open opened store back → back ≢ 0 →
      (store < back) × WritesBack h b back × NoneBetween (WritesBack h b) store back
  pub no_back : (h : History) (b opened store : ℕ) → named_of h b ≡ Open opened store 0 → (i : ℕ) → store < i → WritesBack h b i → ⊥
  -- and of a closed one also the first fence after that write-back
  pub fence : (h : History) (b opened closed store back fence : ℕ) → named_of h b ≡ Closed opened closed store back fence →
      (store < back) × WritesBack h b back × NoneBetween (WritesBack h b) store back ×
      (back < fence) × Fences h fence × NoneBetween (Fences h) back fence
  -- dropping the three events gives the old answer, so both epochs keep their values
  pub dropped : (asked : ℕ) (given : List Record) (byte : ℕ) → byte < window_bytes (window_of asked) →
      epochs_answered (asked_reply (ask_of (run_from asked given) byte)) ≡ Reply.values (interval_values (interval_of (taken_from asked given) byte))
  -- the tests that findings go by, on event numbers, are those on the epochs of intervals
  pub risk : (asked : ℕ) (given : List Record) (b : ℕ) → at_risk (of_run (run_from asked given)) b ≡ risk_by_epochs (taken_from asked given) b
  pub order : (asked : ℕ) (given : List Record) (kept lost : ℕ) →
      breaks (of_run (run_from asked given)) kept lost ≡ breaks_by_epochs (taken_from asked given) kept lost
  -- by the entries of a run: a byte is at risk exactly if its closing fence is older than its last store; and, of any run whatever, a lost
  -- byte breaks an order with a kept one on another line exactly if it is stored to and its closing fence is older than its last store or
  -- younger than the kept byte's
  pub risk_entries : (asked : ℕ) (given : List Record) (b : ℕ) → let run = run_from asked given in
      at_risk (of_run run) b ≡ ltb (entry run.fenced b) (entry run.stored b)
  pub order_entries : (run : Run) (kept lost : ℕ) → entry run.stored kept ≢ 0 → line_of kept ≢ line_of lost →
      breaks (of_run run) kept lost ≡
      (not (eqb (entry run.stored lost) 0) &&
      (ltb (entry run.fenced lost) (entry run.stored lost) || ltb (entry run.stored kept) (entry run.fenced lost)))
  -- no answer to an event given goes by the epochs or the first write-backs of a run: without them it gets the same, and leads to the same
  pub events : (run : Run) (r : Record) → give_of (bare run) r ≡ bare_given (give_of run r)
  -- an accepted trace: what the run after its events, given singly, answers, with the sites of the events named; event n is record n
  pub traces : (trace area totals : List ℕ) (byte : ℕ) → verdict_reply (verdict_of trace area) ≡ Reply.values totals →
      trace_interval_of trace byte ≡ with_sites (records_in trace) (ask_of (run_from (lines_in trace) (events_in trace)) byte)
  pub sites : (trace area totals : List ℕ) (event : ℕ) → verdict_reply (verdict_of trace area) ≡ Reply.values totals →
      site_in (records_in trace) event ≡ site_of_event (history_of trace) event
  -- a trace that the judge refuses: the same refusal, 14 aside
  pub refused : (trace area : List ℕ) (byte number at : ℕ) → verdict_reply (verdict_of trace area) ≡ Reply.refused number at → number ≢ 14 →
      trace_interval_reply (trace_interval_of trace byte) ≡ Reply.refused number at
