-- What a judge asks of a run: the questions that refusals and findings are worked out from. Here their answers are read off
-- a history; the engine answers the same questions from its tables.
use Rattle.std.specs.Prelude.{Bool, not, ◌&&◌, ℕ, eqb, ltb, length}
use Rattle.history.specs.Count.{last}
use Rattle.history.specs.History.{History, is, stores_some, stores_line, writes_back_line, logs_byte}
use Rattle.history.specs.Interval.{last_store, closing_fence}
use Rattle.history.specs.Transaction.{depth, outermost}

pub record View : Type 0 where
  pub lines : ℕ  -- the window's lines
  pub events : ℕ  -- events taken
  pub depth : ℕ  -- transactions open
  pub begin : ℕ  -- the latest outermost begin
  pub latest_store : ℕ  -- the latest store of some byte, whichever it is
  pub last_store : ℕ → ℕ  -- a byte's last store
  pub last_log : ℕ → ℕ  -- a byte's last log
  pub stored_since : ℕ → Bool  -- a byte was stored to since that begin
  pub risk : ℕ → Bool  -- a byte's persist interval is open: it was stored to, and no fence has closed it
  pub closing : ℕ → ℕ  -- the fence that closed a byte's persist interval, 0 where none has
  pub line_store : ℕ → ℕ  -- the last store to a line
  pub line_back : ℕ → ℕ  -- the last write-back of a line

-- the answers of a history, in a window of this many lines
abbrev pub of_history : ℕ → History → View
of_history lines h =
    record {
      lines = lines;
      events = length h;
      depth = depth h;
      begin = outermost h;
      latest_store = last (is stores_some h) (length h);
      last_store = last_store h;
      last_log = λ b. last (is (logs_byte b) h) (length h);
      stored_since = λ b. ltb (outermost h) (last_store h b);
      risk = λ b. not (eqb (last_store h b) 0) && eqb (closing_fence h b) 0;
      closing = closing_fence h;
      line_store = λ l. last (is (stores_line l) h) (length h);
      line_back = λ l. last (is (writes_back_line l) h) (length h);
    }
