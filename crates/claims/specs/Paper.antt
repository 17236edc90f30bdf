-- The rules of document 000, section 4.4: what a write, a write-back and a fence do to the status of a byte. An interval (s, ∞) of
-- that paper is `Open s`, an interval (s, e) is `Closed s e`, and a cleared one is `None`. As document 01 has it, a write-back
-- (clwb) is of every line that it touches, and a fence (sfence) ends only intervals that have no end yet.
use Rattle.std.specs.Prelude.{cond, [], ◌∷◌, ℕ, suc}
use Rattle.event.specs.declared.Event.{Event}
use Rattle.event.specs.declared.Interval.{Interval}
use Rattle.event.specs.declared.Interval.TheVariants.{None, Open, Closed}
use Rattle.window.specs.Window.{line_of}
use Rattle.history.specs.History.{History, fences, stores_byte, writes_back_line}
use Rattle.history.specs.ByEpochs.{is_open}

-- the persistency status of a byte, with the global status
pub record Status : Type 0 where
  pub timestamp : ℕ  -- global_timestamp
  pub persist : Interval  -- persist_interval
  pub flush : Interval  -- flush_interval

-- nothing has happened: the timestamp is 0, and there is no interval
abbrev pub start : Status
start = record { timestamp = 0; persist = None; flush = None }

-- write: clears both intervals, and sets the persist interval to (timestamp, ∞)
abbrev pub write : Status → Status
write s = record { timestamp = s.timestamp; persist = Open s.timestamp; flush = None }

-- clwb: sets the flush interval to (timestamp, ∞)
abbrev pub clwb : Status → Status
clwb s = record { timestamp = s.timestamp; persist = s.persist; flush = Open s.timestamp }

-- an interval that has no end yet ends at the timestamp
abbrev pub end_at : ℕ → Interval → Interval
end_at t None = None
end_at t (Open s) = Closed s t
end_at t (Closed s e) = Closed s e

-- sfence: first, increments the timestamp; second, ends the flush interval of a prior clwb; third, ends the persist interval of
-- that clwb
abbrev pub sfence : Status → Status
sfence s =
    let t = suc s.timestamp in
    record { timestamp = t; persist = cond (is_open s.flush) (end_at t s.persist) s.persist; flush = end_at t s.flush }

-- what an event does to the status of byte b
abbrev pub updated : ℕ → Event → Status → Status
updated b e s =
    cond (stores_byte b e) (write s)
    (cond (writes_back_line (line_of b) e) (clwb s)
    (cond (fences e) (sfence s) s))

-- the status of byte b after the history
unfoldable pub status : ℕ → History → Status
status b [] = start
status b (r ∷ h) = updated b r.event (status b h)
