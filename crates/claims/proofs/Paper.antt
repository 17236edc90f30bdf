-- The rules of document 000 give the same persist interval as document 01.
use mathlib.Core.Path.{◌≡◌, refl, sym, ◌∙◌}
use mathlib.Core.List.{[], ◌∷◌}
use Prim.Native.Nat.{ℕ}
use lib.ListN.{length}
use Rattle.history.specs.Count.{last}
use Rattle.history.specs.History.{History}
use Rattle.history.specs.Interval.{epoch_at, last_store, interval_of}
use Rattle.history.specs.ByEpochs.{is_open}
use Rattle.history.proofs.Meaning.Events.{epoch_start, epoch_next}
use Rattle.engine.proofs.ByEntries.{backed}
use Rattle.claims.specs.Paper.{status}
use Rattle.claims.proofs.Rules.{timestamp_next, persist_next, flush_next}
use Rattle.claims.proofs.Next.{interval_next, backed_next}

-- the global timestamp is the epoch
pub timestamp_epoch : (b : ℕ) (h : History) → (status b h).timestamp ≡ epoch_at h (length h)
unfolding status
timestamp_epoch b [] = sym epoch_start
timestamp_epoch b (r ∷ h) = timestamp_next b r.event (status b h) ∙ (rw (timestamp_epoch b h, epoch_next r h))

-- the flush interval is open exactly if the byte's line was written back since its last store and since the last fence
flush_backed : (b : ℕ) (h : History) → is_open (status b h).flush ≡ backed h b
unfolding status last_store last
flush_backed b [] = refl
flush_backed b (r ∷ h) = flush_next b r.event (status b h) ∙ (rw (flush_backed b h, backed_next r h b))

-- after every history, each byte has the interval of document 01
pub persist_interval : (b : ℕ) (h : History) → (status b h).persist ≡ interval_of h b
unfolding status interval_of last_store last
persist_interval b [] = refl
persist_interval b (r ∷ h) =
    persist_next b r.event (status b h) ∙ (rw (timestamp_epoch b h, flush_backed b h, persist_interval b h, interval_next r h b))
