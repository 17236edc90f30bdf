-- An event followed leads to the run to which it leads when it is given, but for the undo log and the count of findings.
use Rattle.std.specs.Prelude.{Ok, Err}
use Rattle.std.proofs.Common.{◌≡◌, refl}
use mathlib.Core.List.{List}
use mathlib.Core.Logic.{◌⊎◌, inl, inr}
use Prim.Native.Nat.{ℕ}
use Rattle.event.specs.declared.Range.{Range}
use Rattle.event.specs.declared.Event.{Event}
use Rattle.event.specs.declared.Event.TheVariants.{Store, WriteBack, Fence, Begin, Log, End, Persisted, Ordered}
use Rattle.event.specs.declared.Record.{Record}
use Rattle.event.specs.declared.Finding.{Finding}
use Rattle.event.specs.Answers.{Check}
use Rattle.history.specs.Refused.{refusal_by}
use Rattle.history.specs.Found.{finding_by}
use Rattle.tables.specs.declared.Counts.{Counts}
use Rattle.tables.specs.Run.{Run}
use Rattle.tables.specs.View.{run_of, of_run}
use Rattle.tables.specs.Table.{changed}
use Rattle.events.specs.Next.{counts_after, tables_after}
use Rattle.events.specs.Give.{next_of, one_event_more, given_for, give_of}
use Rattle.events.specs.Follow.{next_followed, followed_for, follow_of}

-- a log and an assertion change the numbers alone
pub passed_over : (run : Run) (e : Event) →
    ((a : Range) × (e ≡ Log a)) ⊎ (((a : Range) × (e ≡ Persisted a)) ⊎ ((a : Range) × (b : Range) × (e ≡ Ordered a b))) →
    one_event_more run ≡ next_followed run e
unfolding counts_after tables_after
passed_over run e (inl k) = rw k.1
passed_over run e (inr (inl k)) = rw k.1
passed_over run e (inr (inr k)) = rw k.2

-- the numbers with no finding counted
abbrev pub uncounted : Counts → Counts
uncounted c =
    record {
      lines = c.lines;
      events = c.events;
      fences = c.fences;
      findings = 0;
      depth = c.depth;
      begin = c.begin;
      store = c.store;
      fence = c.fence;
    }

-- a run in which no finding is counted: it has this undo log, whatever was logged, and of the first write-backs what is kept
module _ (log : List ℕ) (keep : List ℕ → List ℕ) where
  abbrev pub without_findings : Run → Run
  without_findings run = run_of (uncounted run.counts) run.stored log run.fenced run.opened run.closed (keep run.written) run.dirtied run.backed

  -- what is kept of the first write-backs is changed as they are
  module _ (kept : (f : ℕ → ℕ → ℕ) (at n : ℕ) (xs : List ℕ) → keep (changed f at n xs) ≡ changed f at n (keep xs)) where
    next_without : (run : Run) (e : Event) (f : Finding) → next_followed (without_findings run) e ≡ without_findings (next_of run e f)
    unfolding counts_after tables_after
    next_without run (Store a) f = refl
    next_without run (WriteBack a) f = rw kept
    next_without run Fence f = refl
    next_without run Begin f = refl
    next_without run (Log a) f = refl
    next_without run End f = refl
    next_without run (Persisted a) f = refl
    next_without run (Ordered a b) f = refl

    -- so it is refused alike, and the run after it is the one after the event given
    pub follow_without : (run : Run) (r : Record) →
        follow_of (without_findings run) r ≡ record { check = refusal_by (of_run run) r.event; run = without_findings (give_of run r).run }
    unfolding follow_of give_of refusal_by
    follow_without run r = go (refusal_by (of_run run) r.event)
      where
        go : (c : Check) → followed_for c (without_findings run) r.event ≡ record { check = c; run = without_findings (given_for c run r.event).run }
        go (Err x) = refl
        go (Ok _) = rw (next_without run r.event (finding_by (of_run run) r.event))
