-- A run that tracks a history tracks it with one more accepted event.
use Rattle.std.specs.Prelude.{Ok}
use mathlib.Core.Path.{◌≡◌, refl, ap, ap₂, ◌∙◌}
use mathlib.Core.Bool.{Bool, true, false, cond, not, ◌&&◌, and_assoc, and-false}
use mathlib.Core.List.{◌∷◌}
use mathlib.Core.Logic.{◌≢◌}
use Prim.Native.Nat.{ℕ, suc, ◌+◌, ◌≤◌}
use native.Mathlib.Omega.{arith}
use native.Mathlib.Decide.{ℕ_discrete as dec_eq}
use lib.Dec.{eqb, ltb}
use lib.ListN.{length}
use borrow.Author.Tests.{eq-eqb, ne_eqb}
use Rattle.event.specs.declared.Record.{Record}
use Rattle.event.specs.declared.Finding.{Finding}
use Rattle.event.specs.Numbers.{is_none}
use Rattle.event.proofs.Bools.{and_left}
use Rattle.window.specs.Window.{most_lines, window_bytes, line_of}
use Rattle.history.specs.History.{History, is, fences, stores_byte, stores_some, stores_line, writes_back_line, logs_byte}
use Rattle.history.specs.Interval.{epoch_at, last_store, closing_fence, first_back}
use Rattle.history.specs.Transaction.{depth, depth_after, outermost}
use Rattle.history.specs.View.{View, of_history}
use Rattle.history.specs.Found.{at_risk}
use Rattle.history.specs.Given.{Accepted, counts}
use Rattle.history.proofs.Interval.{last_store_stores, last_store_within}
use Rattle.history.proofs.Meaning.Events.{epoch_kept, epoch_next}
use Rattle.history.proofs.Meaning.Accepted.{Taken}
use Rattle.tables.specs.Run.{Run}
use Rattle.tables.specs.Table.{entry}
use Rattle.tables.specs.View.{since_store, lines_of, of_run}
use Rattle.tables.proofs.SinceStore.{since_older, since_counts, open_by}
use Rattle.events.specs.Next.{one_more, closes, counts_after, tables_after}
use Rattle.events.specs.Give.{next_of}
use Rattle.engine.specs.Tracks.{Tracks}
use Rattle.engine.proofs.Histories.{last_next, count_within, accepted_within, taken_inside}
use Rattle.engine.proofs.ClosingFence.{closing_event}
use Rattle.engine.proofs.ByEntries.{closing, closing_never}
use Rattle.engine.proofs.NextEntries.{store_no_fence, store_no_back, store_next, opened_next, fence_next, back_next}
use Rattle.engine.proofs.Sizes.{Sized, sized_next}
use Rattle.engine.proofs.Entries.{EntriesAfter, entries_next}

-- one more, in 16 bits, is one more where there is room for it
one_more_lem : (n : ℕ) → suc n ≤ 65535 → one_more n ≡ suc n
one_more_lem n k = omega arith

-- a finding adds at most one
at_most_one : (b : Bool) → cond b 0 1 ≤ 1
at_most_one true = omega arith
at_most_one false = omega arith

-- what every run that grew from a fresh window keeps to
pub record Follows (lines : ℕ) (h : History) (run : Run) : Type 0 where
  pub tracks : Tracks lines h run
  pub sized : Sized run
  pub taken : Taken lines h
  pub findings : run.counts.findings ≤ length h
  pub fenced : (b : ℕ) → entry run.fenced b ≤ length h
  pub written : (b : ℕ) → entry run.written b ≤ length h

-- an entry is older than a store that comes after it, and what one more event sets is not: so it counts as it should
since_next : (m store old : ℕ) {new : ℕ} (stores sets : Bool) → store ≤ m → old ≤ m → (stores ≡ true → sets ≡ false) → since_store store old ≡ new →
    since_store (cond stores (suc m) store) (cond sets (suc m) old) ≡ cond stores 0 (cond sets (suc m) new)
since_next m store old true sets s o apart e = rw (apart refl) (since_older (suc m) old (omega arith))
since_next m store old false true s o apart e = since_counts store (suc m) (λ k. omega (arith, k, s))
since_next m store old false false s o apart e = e

-- an entry that one more event sets or leaves is within one more
within_next : (m old : ℕ) (sets : Bool) → old ≤ m → cond sets (suc m) old ≤ suc m
within_next m old true k = omega arith
within_next m old false k = omega arith

module _ (lines : ℕ) (m : lines ≤ most_lines) (h : History) (run : Run) (k : Follows lines h run) (same : of_run run ≡ of_history lines h) where
  -- a fence closes a byte of the run exactly if it does in the history
  closes_same : (b : ℕ) → closes run b ≡ closing h b
  closes_same b =
      ap₂ (λ (v : View) (fence : ℕ). at_risk v b && ltb (v.last_store b) (v.line_back (line_of b)) && ltb fence (v.line_back (line_of b)))
      same k.tracks.latest_fence ∙ and_assoc (at_risk (of_history lines h) b) _ _

  -- and none beyond the window
  none_beyond : (b : ℕ) → window_bytes (lines_of run.counts) ≤ b → closes run b ≡ false
  none_beyond b w = closes_same b ∙ closing_never h b (go (dec_eq (last_store h b) 0))
    where
      go : Dec (last_store h b ≡ 0) → last_store h b ≡ 0
      go (yes z) = z
      go (no s) = absurd (omega (arith, taken_inside k.taken (last_store h b) b (last_store_stores h b s), k.tracks.window))

  module _ (r : Record) (a : Accepted lines h r) where
    -- the next epoch has room
    next_epoch : one_more run.counts.fences ≡ suc (epoch_at h (length h))
    unfolding epoch_at
    next_epoch = rw k.tracks.epoch (one_more_lem _ (omega (arith, count_within (is fences h) (length h), (accepted_within lines h r a).number)))

    -- each table entry is what the event makes it
    entries : EntriesAfter run r.event (tables_after run r.event)
    entries =
        entries_next run k.sized none_beyond (λ b. omega (arith, k.fenced b, k.tracks.events)) lines m r.event (accepted_within lines h r a).ranges

    -- the closing fence that this event sets, and the first write-back
    abbrev sets_fence : ℕ → Bool
    sets_fence b = fences r.event && closing h b

    abbrev sets_back : ℕ → Bool
    sets_back b = writes_back_line (line_of b) r.event && (not (eqb (last_store h b) 0) && eqb (first_back h b) 0)

    fenced_entry : (b : ℕ) → entry (tables_after run r.event).fenced b ≡ cond (sets_fence b) (suc (length h)) (entry run.fenced b)
    fenced_entry b = entries.fenced b ∙ (rw (closes_same b, k.tracks.events))

    written_entry : (b : ℕ) → entry (tables_after run r.event).written b ≡ cond (sets_back b) (suc (length h)) (entry run.written b)
    written_entry b =
        entries.written b ∙
        (rw (k.tracks.events, k.tracks.stored b, ← open_by (last_store h b) (entry run.written b), k.tracks.written b))

    fenced_next : (b : ℕ) → since_store (last_store (r ∷ h) b) (entry (tables_after run r.event).fenced b) ≡ closing_fence (r ∷ h) b
    fenced_next b =
        rw (fenced_entry b, fence_next r h b, store_next r h b)
        (since_next (length h) (last_store h b) (entry run.fenced b) (stores_byte b r.event) (sets_fence b) (last_store_within h b) (k.fenced b)
        (λ t. rw (store_no_fence b r.event t)) (k.tracks.fenced b))

    written_next : (b : ℕ) → since_store (last_store (r ∷ h) b) (entry (tables_after run r.event).written b) ≡ first_back (r ∷ h) b
    written_next b =
        rw (written_entry b, back_next r h b, store_next r h b)
        (since_next (length h) (last_store h b) (entry run.written b) (stores_byte b r.event) (sets_back b) (last_store_within h b) (k.written b)
        (λ t. rw (store_no_back b (line_of b) r.event t)) (k.tracks.written b))

    -- the closing epoch of a byte is that of its closing fence
    closed_next : (b : ℕ) → closing_fence (r ∷ h) b ≢ 0 → entry (tables_after run r.event).closed b ≡ epoch_at (r ∷ h) (closing_fence (r ∷ h) b)
    closed_next b some = go (stores_byte b r.event) refl (sets_fence b) refl
      where
        go : (t : Bool) → stores_byte b r.event ≡ t → (u : Bool) → sets_fence b ≡ u →
            entry (tables_after run r.event).closed b ≡ epoch_at (r ∷ h) (closing_fence (r ∷ h) b)
        go true t u e = absurd (some (fence_next r h b ∙ (rw t)))
        go false t true e =
            let now : closing_fence (r ∷ h) b ≡ suc (length h) = fence_next r h b ∙ (rw (t, e)) in
            let fence : fences r.event ≡ true = and_left (fences r.event) (closing h b) e in
            let here : entry (tables_after run r.event).fenced b ≡ suc run.counts.events = fenced_entry b ∙ (rw (e, k.tracks.events)) in
            entries.closed b ∙ (rw (now, epoch_next r h, fence, here, eq-eqb (suc run.counts.events) (suc run.counts.events) refl, next_epoch))
        go false t false e =
            let still : closing_fence (r ∷ h) b ≡ closing_fence h b = fence_next r h b ∙ (rw (t, e)) in
            let then : closing_fence h b ≢ 0 = λ z. some (still ∙ z) in
            let as_it_was : entry (tables_after run r.event).fenced b ≡ entry run.fenced b = fenced_entry b ∙ (rw e) in
            let other : entry (tables_after run r.event).fenced b ≢ suc run.counts.events =
            λ z. omega (arith, z, as_it_was, k.fenced b, k.tracks.events) in
            entries.closed b ∙
            (rw (ne_eqb (entry (tables_after run r.event).fenced b) (suc run.counts.events) other, and-false, still, epoch_kept r h (closing_fence h b) (closing_event h b then))
            (k.tracks.closed b then))

    -- its tables then track one more event
    tracks_next : (f : Finding) → Tracks lines (r ∷ h) (next_of run r.event f)
    unfolding counts_after depth outermost
    tracks_next f =
        let t = k.tracks in
        record {
          window = t.window;
          events = ap suc t.events;
          epoch = rw (epoch_next r h, next_epoch, t.epoch);
          nesting = ap (depth_after r.event) t.nesting;
          began = rw (t.nesting, t.events, t.began);
          latest_store = cc (last_next stores_some r h);
          latest_fence = cc (last_next fences r h);
          stored = λ b. cc (store_next r h b, entries.stored b, t.stored b);
          logged = λ b. cc (last_next (logs_byte b) r h, entries.logged b, t.logged b);
          opened = λ b. cc (opened_next r h b, entries.opened b, t.opened b);
          fenced = fenced_next;
          closed = closed_next;
          written = written_next;
          dirtied = λ l. cc (last_next (stores_line l) r h, entries.dirtied l, t.dirtied l);
          backed = λ l. cc (last_next (writes_back_line l) r h, entries.backed l, t.backed l);
        }

    -- a finding other than none is counted
    pub findings_next : (f : Finding) → (next_of run r.event f).counts.findings ≡ run.counts.findings + counts (Ok f)
    unfolding counts_after
    findings_next f = go (is_none f)
      where
        go : (b : Bool) → cond b run.counts.findings (one_more run.counts.findings) ≡ run.counts.findings + cond b 0 1
        go true = omega arith
        go false = one_more_lem run.counts.findings (omega (arith, k.findings, (accepted_within lines h r a).number)) ∙ (omega arith)

    -- so a run that follows a history follows it with one more accepted event
    pub follows_next : (f : Finding) → Follows lines (r ∷ h) (next_of run r.event f)
    follows_next f =
        let s = sized_next run k.sized r.event in
        record {
          tracks = tracks_next f;
          sized =
              record {
                stored = s.stored;
                logged = s.logged;
                fenced = s.fenced;
                opened = s.opened;
                closed = s.closed;
                written = s.written;
                dirtied = s.dirtied;
                backed = s.backed;
              };
          taken = Taken.taken k.taken a;
          findings = omega (arith, findings_next f, at_most_one (is_none f), k.findings);
          fenced = λ b. rw (fenced_entry b) (within_next (length h) (entry run.fenced b) (sets_fence b) (k.fenced b));
          written = λ b. rw (written_entry b) (within_next (length h) (entry run.written b) (sets_back b) (k.written b));
        }
