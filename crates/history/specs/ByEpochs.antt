-- The tests of a persisted and of an order on the epochs of intervals. The findings go by event numbers (`Found`); these say the same.
use Rattle.std.specs.Prelude.{Bool, true, false, cond, not, ◌&&◌, ◌||◌, ℕ, leb, ltb, eqb}
use Rattle.event.specs.declared.Interval.{Interval}
use Rattle.event.specs.declared.Interval.TheVariants.{None, Open, Closed}
use Rattle.window.specs.Window.{line_of, word_of}
use Rattle.history.specs.History.{History}
use Rattle.history.specs.Interval.{last_store, interval_of}

-- an interval is open
abbrev pub is_open : Interval → Bool
is_open None = false
is_open (Open e) = true
is_open (Closed e f) = false

-- the epoch at which it opened, 0 where there is none
abbrev pub opened_at : Interval → ℕ
opened_at None = 0
opened_at (Open e) = e
opened_at (Closed e f) = e

-- it was closed by an epoch
abbrev pub closed_by_epoch : Interval → ℕ → Bool
closed_by_epoch None k = false
closed_by_epoch (Open e) k = false
closed_by_epoch (Closed e f) k = leb f k

-- a persisted is broken at the byte: its interval is open
abbrev pub risk_by_epochs : History → ℕ → Bool
risk_by_epochs h b = is_open (interval_of h b)

-- a crash may keep the first byte and lose the second. Both were stored to; on one line the kept store is the older, or one store set
-- both in different words; and on two lines the lost byte's interval was not closed by the epoch of the kept store
abbrev pub breaks_by_epochs : History → ℕ → ℕ → Bool
breaks_by_epochs h kept lost =
    not (eqb (last_store h kept) 0) && not (eqb (last_store h lost) 0) &&
    cond (eqb (line_of kept) (line_of lost))
    (ltb (last_store h kept) (last_store h lost) || eqb (last_store h kept) (last_store h lost) && not (eqb (word_of kept) (word_of lost)))
    (not (closed_by_epoch (interval_of h lost) (opened_at (interval_of h kept))))
