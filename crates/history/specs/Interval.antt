-- Epochs, last stores and persist intervals.
use Rattle.std.specs.Prelude.{ℕ, length}
use Rattle.event.specs.declared.Interval.{Interval}
use Rattle.event.specs.declared.Interval.TheVariants.{None, Open, Closed}
use Rattle.event.specs.declared.NamedInterval.{NamedInterval}
use Rattle.event.specs.declared.NamedInterval.TheVariants.{None as NoneNamed, Open as OpenNamed, Closed as ClosedNamed}
use Rattle.window.specs.Window.{line_of}
use Rattle.history.specs.Count.{count, last, first, if_some}
use Rattle.history.specs.History.{History, is, fences, stores_byte, writes_back_line}

-- the epoch at event m: the count of fences so far
unfoldable pub epoch_at : History → ℕ → ℕ
epoch_at h m = count (is fences h) m

-- a byte's last store: the latest store event covering it
unfoldable pub last_store : History → ℕ → ℕ
last_store h b = last (is (stores_byte b) h) (length h)

-- the first write-back of line l after event s
unfoldable pub back_after : History → ℕ → ℕ → ℕ
back_after h l s = first (is (writes_back_line l) h) s (length h)

-- the first fence after the first write-back, after event s, of line l
unfoldable pub fence_after : History → ℕ → ℕ → ℕ
fence_after h l s = if_some (back_after h l s) 0 (λ w. first (is fences h) w (length h))

-- a byte's interval opens at the epoch of its last store and closes at the epoch begun by that fence
unfoldable pub interval_of : History → ℕ → Interval
interval_of h b =
    if_some (last_store h b) None (λ s.
    if_some (fence_after h (line_of b) s) (Open (epoch_at h s)) (λ f.
    Closed (epoch_at h s) (epoch_at h f)))

-- the fence that closed it, 0 where none has
unfoldable pub closing_fence : History → ℕ → ℕ
closing_fence h b = if_some (last_store h b) 0 (λ s. fence_after h (line_of b) s)

-- the first write-back of its line after its last store, 0 where there is none
unfoldable pub first_back : History → ℕ → ℕ
first_back h b = if_some (last_store h b) 0 (λ s. back_after h (line_of b) s)

-- the same interval with "the event of the last store, of the first write-back of the line after it (0 if none yet) and, when closed, of
-- the fence"
unfoldable pub named_of : History → ℕ → NamedInterval
named_of h b =
    if_some (last_store h b) NoneNamed (λ s.
    if_some (fence_after h (line_of b) s) (OpenNamed (epoch_at h s) s (back_after h (line_of b) s)) (λ f.
    ClosedNamed (epoch_at h s) (epoch_at h f) s (back_after h (line_of b) s) f))
