-- Each entry of each table after an event.
use mathlib.Core.Path.{◌≡◌, refl, ◌∙◌}
use mathlib.Core.Bool.{Bool, true, false, cond, ◌&&◌, ◌||◌}
use mathlib.Core.Logic.{◌≢◌}
use Prim.Native.Nat.{ℕ, ◌≤◌}
use native.Mathlib.Omega.{arith}
use native.Mathlib.Decide.{dec_le}
use lib.Dec.{eqb, ltb}
use borrow.Author.Tests.{ne_eqb}
use Rattle.event.specs.declared.Event.{Event}
use Rattle.event.specs.declared.Event.TheVariants.{Store, WriteBack, Fence, Begin, Log, End, Persisted, Ordered}
use Rattle.window.specs.Window.{most_lines, window_bytes, line_of}
use Rattle.ranges.specs.Ranges.{touches, is_past, ranges_of, any_range}
use Rattle.history.specs.History.{stores, writes_back, fences, logs, stores_byte, stores_line, writes_back_line, logs_byte}
use Rattle.tables.specs.Run.{Run}
use Rattle.tables.specs.Table.{entry, changed}
use Rattle.tables.specs.View.{lines_of}
use Rattle.intervals.specs.Now.{backed_now, closed_now}
use Rattle.events.specs.Next.{next_number, one_more, closes, fenced_after, tables_after}
use Rattle.tables.proofs.Table.{changed_inside, changed_above}
use Rattle.engine.proofs.Sizes.{Sized}
use Rattle.engine.proofs.Filled.{Fits, fits, filled_bytes_lem, filled_lines_lem, changed_lines}

-- each entry after an event: the event's number or the epoch where the event covers, touches or closes its place, and else as it was
pub record EntriesAfter (run : Run) (e : Event) (next : Run) : Type 0 where
  pub stored : (b : ℕ) → entry next.stored b ≡ cond (stores_byte b e) (next_number run.counts) (entry run.stored b)
  pub logged : (b : ℕ) → entry next.logged b ≡ cond (logs_byte b e) (next_number run.counts) (entry run.logged b)
  pub fenced : (b : ℕ) → entry next.fenced b ≡ cond (fences e && closes run b) (next_number run.counts) (entry run.fenced b)
  pub opened : (b : ℕ) → entry next.opened b ≡ cond (stores_byte b e) run.counts.fences (entry run.opened b)
  pub closed : (b : ℕ) →
      entry next.closed b ≡
      cond (fences e && eqb (entry next.fenced b) (next_number run.counts)) (one_more run.counts.fences) (entry run.closed b)
  pub written : (b : ℕ) →
      entry next.written b ≡
      cond (writes_back_line (line_of b) e && ltb (entry run.written b) (entry run.stored b)) (next_number run.counts) (entry run.written b)
  pub dirtied : (l : ℕ) → entry next.dirtied l ≡ cond (stores_line l e) (next_number run.counts) (entry run.dirtied l)
  pub backed : (l : ℕ) → entry next.backed l ≡ cond (writes_back_line l e) (next_number run.counts) (entry run.backed l)

-- one test within another is both
cond_twice : (t u : Bool) (x y : ℕ) → cond t (cond u x y) y ≡ cond (t && u) x y
cond_twice true u x y = refl
cond_twice false u x y = refl

-- an event of none of these kinds changes none
no_change : (run : Run) (e : Event) → stores e ≡ false → writes_back e ≡ false → fences e ≡ false → logs e ≡ false → EntriesAfter run e run
no_change run e st wb fe lo =
    record {
      stored = λ b. rw st;
      logged = λ b. rw lo;
      fenced = λ b. rw fe;
      opened = λ b. rw st;
      closed = λ b. rw fe;
      written = λ b. rw wb;
      dirtied = λ l. rw st;
      backed = λ l. rw wb;
    }

module _ (run : Run) (s : Sized run) (beyond : (b : ℕ) → window_bytes (lines_of run.counts) ≤ b → closes run b ≡ false)
    (older : (b : ℕ) → entry run.fenced b ≤ run.counts.events) where
  abbrev bytes : ℕ
  bytes = window_bytes (lines_of run.counts)

  -- what a fence makes of the closing fence of every byte, where it closes none beyond the window
  fenced_by_fence : (b : ℕ) → entry (fenced_after run) b ≡ cond (closes run b) (next_number run.counts) (entry run.fenced b)
  fenced_by_fence b = go (dec_le bytes b)
    where
      go : Dec (bytes ≤ b) → entry (fenced_after run) b ≡ cond (closes run b) (next_number run.counts) (entry run.fenced b)
      go (yes k) = rw (beyond b k) (changed_above _ 0 run.fenced bytes b (omega arith))
      go (no k) = changed_inside _ 0 run.fenced bytes b (omega arith) (omega arith) (omega arith)

  -- and of its closing epoch
  closed_by_fence : (b : ℕ) →
      entry (tables_after run Fence).closed b ≡
      cond (eqb (entry (fenced_after run) b) (next_number run.counts)) (one_more run.counts.fences) (entry run.closed b)
  unfolding tables_after
  closed_by_fence b = go (dec_le bytes b)
    where
      now : ℕ → ℕ → ℕ
      now = closed_now (next_number run.counts) (one_more run.counts.fences) (fenced_after run)

      go : Dec (bytes ≤ b) →
          entry (changed now 0 bytes run.closed) b ≡
          cond (eqb (entry (fenced_after run) b) (next_number run.counts)) (one_more run.counts.fences) (entry run.closed b)
      go (yes k) =
          let as_it_was : entry (fenced_after run) b ≡ entry run.fenced b = rw (fenced_by_fence b, beyond b k) in
          let other : entry (fenced_after run) b ≢ next_number run.counts = λ z. omega (arith, as_it_was, z, older b) in
          rw (ne_eqb (entry (fenced_after run) b) (next_number run.counts) other) (changed_above now 0 run.closed bytes b (omega arith))
      go (no k) = changed_inside now 0 run.closed bytes b (omega arith) (omega arith) (omega arith)

  -- each entry after an accepted event
  pub entries_next : (lines : ℕ) → lines ≤ most_lines → (e : Event) → any_range (is_past lines) (ranges_of e) ≡ false →
      EntriesAfter run e (tables_after run e)
  unfolding tables_after
  entries_next lines m (Store a) k =
      let x : Fits a = fits lines m a k in
      record {
        stored = λ b. filled_bytes_lem (next_number run.counts) a run.stored b (omega arith);
        logged = λ b. refl;
        fenced = λ b. refl;
        opened = λ b. filled_bytes_lem run.counts.fences a run.opened b (omega arith);
        closed = λ b. refl;
        written = λ b. refl;
        dirtied = λ l. filled_lines_lem (next_number run.counts) a run.dirtied l (omega arith);
        backed = λ l. refl;
      }
  entries_next lines m (WriteBack a) k =
      let x : Fits a = fits lines m a k in
      record {
        stored = λ b. refl;
        logged = λ b. refl;
        fenced = λ b. refl;
        opened = λ b. refl;
        closed = λ b. refl;
        written = λ b.
            changed_lines (backed_now (next_number run.counts) run.stored) a run.written b (omega arith) ∙
            cond_twice (touches a (line_of b) || false) (ltb (entry run.written b) (entry run.stored b)) (next_number run.counts) (entry run.written b);
        dirtied = λ l. refl;
        backed = λ l. filled_lines_lem (next_number run.counts) a run.backed l (omega arith);
      }
  entries_next lines m Fence k =
      record {
        stored = λ b. refl;
        logged = λ b. refl;
        fenced = fenced_by_fence;
        opened = λ b. refl;
        closed = closed_by_fence;
        written = λ b. refl;
        dirtied = λ l. refl;
        backed = λ l. refl;
      }
  entries_next lines m Begin k = no_change run Begin refl refl refl refl
  entries_next lines m (Log a) k =
      let x : Fits a = fits lines m a k in
      record {
        stored = λ b. refl;
        logged = λ b. filled_bytes_lem (next_number run.counts) a run.logged b (omega arith);
        fenced = λ b. refl;
        opened = λ b. refl;
        closed = λ b. refl;
        written = λ b. refl;
        dirtied = λ l. refl;
        backed = λ l. refl;
      }
  entries_next lines m End k = no_change run End refl refl refl refl
  entries_next lines m (Persisted a) k = no_change run (Persisted a) refl refl refl refl
  entries_next lines m (Ordered a b) k = no_change run (Ordered a b) refl refl refl refl
