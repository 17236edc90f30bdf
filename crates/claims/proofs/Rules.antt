-- What the rules of document 000 do to each part of the status, by the three tests on an event.
use mathlib.Core.Path.{◌≡◌, refl}
use mathlib.Core.Bool.{Bool, true, false, cond, not, ◌&&◌, ◌||◌}
use mathlib.Core.Logic.{⊎_elim}
use Prim.Native.Nat.{ℕ, suc}
use Rattle.event.specs.declared.Event.{Event}
use Rattle.event.specs.declared.Interval.TheVariants.{Open}
use Rattle.window.specs.Window.{line_of}
use Rattle.event.proofs.Bools.{fails, or_cases}
use Rattle.history.specs.History.{fences, stores_byte, writes_back_line}
use Rattle.history.specs.ByEpochs.{is_open}
use Rattle.engine.proofs.ClosingFence.{back_no_fence}
use Rattle.engine.proofs.NextEntries.{store_no_fence}
use Rattle.claims.specs.Paper.{Status, write, clwb, sfence, updated}
use Rattle.claims.proofs.Ends.{end_closes, ends_if}

-- a store or a write-back is no fence
pub no_fence_lem : (b l : ℕ) (e : Event) → stores_byte b e || writes_back_line l e ≡ true → fences e ≡ false
no_fence_lem b l e t =
    ⊎_elim (store_no_fence b e) (λ k. fails (fences e) (back_no_fence l e k)) (or_cases (stores_byte b e) (writes_back_line l e) t)

-- the status after an event that stores the byte, or writes its line back, or is a fence, or is none of these
abbrev ruled : Bool → Bool → Bool → Status → Status
ruled store back fence s = cond store (write s) (cond back (clwb s) (cond fence (sfence s) s))

module _ (b : ℕ) (e : Event) (s : Status) where
  -- a fence increments the timestamp
  pub timestamp_next : (updated b e s).timestamp ≡ cond (fences e) (suc s.timestamp) s.timestamp
  timestamp_next = go (stores_byte b e) (writes_back_line (line_of b) e) (fences e) (no_fence_lem b (line_of b) e)
    where
      go : (p w f : Bool) → (p || w ≡ true → f ≡ false) → (ruled p w f s).timestamp ≡ cond f (suc s.timestamp) s.timestamp
      go true w f k = rw (k refl)
      go false true f k = rw (k refl)
      go false false true k = refl
      go false false false k = refl

  -- a store opens the persist interval, and a fence ends it where the flush interval is open
  pub persist_next :
      (updated b e s).persist ≡ cond (stores_byte b e) (Open s.timestamp) (ends_if (fences e && is_open s.flush) (suc s.timestamp) s.persist)
  persist_next = go (stores_byte b e) (writes_back_line (line_of b) e) (fences e) (no_fence_lem b (line_of b) e)
    where
      go : (p w f : Bool) → (p || w ≡ true → f ≡ false) →
          (ruled p w f s).persist ≡ cond p (Open s.timestamp) (ends_if (f && is_open s.flush) (suc s.timestamp) s.persist)
      go true w f k = refl
      go false true f k = rw (k refl)
      go false false true k = refl
      go false false false k = refl

  -- a store clears the flush interval, a write-back opens it, and a fence ends it
  pub flush_next : is_open (updated b e s).flush ≡ not (stores_byte b e) && (writes_back_line (line_of b) e || (not (fences e) && is_open s.flush))
  flush_next = go (stores_byte b e) (writes_back_line (line_of b) e) (fences e)
    where
      go : (p w f : Bool) → is_open (ruled p w f s).flush ≡ not p && (w || (not f && is_open s.flush))
      go true w f = refl
      go false true f = refl
      go false false true = end_closes (suc s.timestamp) s.flush
      go false false false = refl
