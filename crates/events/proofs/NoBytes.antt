-- A store, a write-back and a log of no bytes leave any run as it was, with one event more.
use Rattle.std.specs.Prelude.{Ok}
use Rattle.std.proofs.Common.{◌≡◌, ℕ, Bool, List, ap, ◌∙◌, arith}
use mathlib.Core.Option.{Option, none}
use Rattle.event.specs.declared.Range.{Range}
use Rattle.event.specs.declared.Event.{Event}
use Rattle.event.specs.declared.Record.{Record}
use Rattle.event.specs.declared.Finding.{Finding}
use Rattle.event.specs.declared.Finding.TheVariants.{None, Unlogged, LoggedTwice}
use Rattle.event.specs.Answers.{Check}
use Rattle.window.specs.Window.{window_bytes, line_of}
use Rattle.ranges.specs.Ranges.{line_count}
use Rattle.history.specs.History.{OfNoBytes}
use Rattle.history.specs.View.{View}
use Rattle.history.specs.Refused.{refusal_by}
use Rattle.history.specs.Found.{lowest, found_or, unlogged, logged, warned_line, finding_by}
use Rattle.ranges.proofs.Meaning.{no_lines}
use Rattle.history.proofs.Meaning.NoBytes.{idle}
use Rattle.tables.specs.Run.{Run}
use Rattle.tables.specs.Table.{changed, filled_bytes, filled_lines}
use Rattle.tables.specs.View.{of_run}
use Rattle.intervals.specs.Now.{backed_now}
use Rattle.events.specs.Next.{next_number, counts_after, tables_after}
use Rattle.events.specs.Give.{next_of, one_event_more, given_for, give_of}

-- a search over no numbers finds none
lowest_none : (p : ℕ → Bool) (x n : ℕ) → n ≡ 0 → lowest p x n ≡ none
unfolding lowest
lowest_none p x n z = rw z

-- so such an event draws no warning, whatever a judge is told
finding_none : (v : View) {e : Event} → OfNoBytes e → finding_by v e ≡ None
unfolding finding_by
finding_none v (OfNoBytes.store {a = a} z) = ap (λ (o : Option ℕ). found_or o None Unlogged) (lowest_none (unlogged v) a.address a.length z)
finding_none v (OfNoBytes.write_back {a = a} z) =
    ap (λ (o : Option ℕ). found_or o None (warned_line v)) (lowest_none _ (line_of a.address) (line_count a) (no_lines a z))
finding_none v (OfNoBytes.log {a = a} z) = ap (λ (o : Option ℕ). found_or o None LoggedTwice) (lowest_none (logged v) a.address a.length z)

-- a table with no entry changed
none_changed : (f : ℕ → ℕ → ℕ) (at n : ℕ) (xs : List ℕ) → n ≡ 0 → changed f at n xs ≡ xs
unfolding changed
none_changed f at n xs z = rw z

-- so are the entries of the bytes and of the lines of a range that has none
no_bytes_lem : (x : ℕ) (a : Range) (xs : List ℕ) → a.length ≡ 0 → filled_bytes x a xs ≡ xs
no_bytes_lem x a xs z = none_changed (λ place old. x) a.address a.length xs z

no_line_lem : (x : ℕ) (a : Range) (xs : List ℕ) → a.length ≡ 0 → filled_lines x a xs ≡ xs
no_line_lem x a xs z = none_changed (λ place old. x) (line_of a.address) (line_count a) xs (no_lines a z)

-- the run after such an event
next_unchanged : (run : Run) {e : Event} → OfNoBytes e → next_of run e None ≡ one_event_more run
unfolding tables_after counts_after
next_unchanged run {e} (OfNoBytes.store {a = a} z) =
    rw (
      (idle (OfNoBytes.store {a = a} z)).no_store,
      no_bytes_lem (next_number run.counts) a run.stored z,
      no_bytes_lem run.counts.fences a run.opened z,
      no_line_lem (next_number run.counts) a run.dirtied z,
    )
next_unchanged run {e} (OfNoBytes.write_back {a = a} z) =
    rw (
      no_line_lem (next_number run.counts) a run.backed z,
      none_changed (backed_now (next_number run.counts) run.stored) (window_bytes (line_of a.address)) (window_bytes (line_count a)) run.written
          (omega (arith, no_lines a z)),
    )
next_unchanged run {e} (OfNoBytes.log {a = a} z) = rw (no_bytes_lem (next_number run.counts) a run.logged z)

pub nothing_else_lem : (run : Run) (r : Record) → OfNoBytes r.event → refusal_by (of_run run) r.event ≡ (Ok tt) →
    give_of run r ≡ record { answer = Ok None; run = one_event_more run }
unfolding give_of
nothing_else_lem run r q passed =
    ap (λ (c : Check). given_for c run r.event) passed ∙ ap (λ (f : Finding). record { answer = Ok f; run = next_of run r.event f }) (finding_none (of_run run) q) ∙
    ap (λ (next : Run). record { answer = Ok None; run = next }) (next_unchanged run q)
