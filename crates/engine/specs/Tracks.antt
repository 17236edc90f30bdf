-- What a run holds after a history of accepted events: each number and each table entry is what the history says.
use Rattle.std.specs.Prelude.{◌≡◌, ◌≢◌, ℕ, length}
use Rattle.history.specs.Count.{last}
use Rattle.history.specs.History.{History, is, fences, stores_some, stores_line, writes_back_line, logs_byte}
use Rattle.history.specs.Interval.{epoch_at, last_store, closing_fence, first_back}
use Rattle.history.specs.Transaction.{depth, outermost}
use Rattle.tables.specs.Run.{Run}
use Rattle.tables.specs.Table.{entry}
use Rattle.tables.specs.View.{since_store}

-- a closing fence and a first write-back that are older than the byte's last store count for nothing; a closing epoch counts where the
-- byte has a closing fence
pub record Tracks (lines : ℕ) (h : History) (run : Run) : Type 0 where
  pub window : run.counts.lines ≡ lines
  pub events : run.counts.events ≡ length h
  pub epoch : run.counts.fences ≡ epoch_at h (length h)
  pub nesting : run.counts.depth ≡ depth h
  pub began : run.counts.begin ≡ outermost h
  pub latest_store : run.counts.store ≡ last (is stores_some h) (length h)
  pub latest_fence : run.counts.fence ≡ last (is fences h) (length h)
  pub stored : (b : ℕ) → entry run.stored b ≡ last_store h b
  pub logged : (b : ℕ) → entry run.logged b ≡ last (is (logs_byte b) h) (length h)
  pub fenced : (b : ℕ) → since_store (last_store h b) (entry run.fenced b) ≡ closing_fence h b
  pub opened : (b : ℕ) → entry run.opened b ≡ epoch_at h (last_store h b)
  pub closed : (b : ℕ) → closing_fence h b ≢ 0 → entry run.closed b ≡ epoch_at h (closing_fence h b)
  pub written : (b : ℕ) → since_store (last_store h b) (entry run.written b) ≡ first_back h b
  pub dirtied : (l : ℕ) → entry run.dirtied l ≡ last (is (stores_line l) h) (length h)
  pub backed : (l : ℕ) → entry run.backed l ≡ last (is (writes_back_line l) h) (length h)
