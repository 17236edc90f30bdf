-- A byte's interval and its events from a run's entries, and whether a fence would close it.
use mathlib.Core.Path.{◌≡◌, refl, sym, ◌∙◌, ap}
use mathlib.Core.Bool.{Bool, true, false, not, ◌&&◌}
use mathlib.Core.Logic.{◌≢◌}
use Prim.Native.Nat.{ℕ}
use native.Mathlib.Decide.{ℕ_discrete as dec_eq}
use lib.Dec.{eqb, ltb}
use lib.ListN.{length}
use borrow.Author.Tests.{eq-eqb, ne_eqb, ltb-true, lt-ltb}
use Rattle.event.specs.declared.NamedInterval.TheVariants.{None, Open, Closed}
use Rattle.event.specs.Reply.{without_events}
use Rattle.window.specs.Window.{line_of}
use Rattle.history.specs.Count.{last, if_some}
use Rattle.history.specs.History.{History, is, fences}
use Rattle.history.specs.Interval.{epoch_at, last_store, fence_after, interval_of, closing_fence, first_back, named_of}
use Rattle.history.proofs.Interval.{if_some_lem, closing_stored, back_stored, named_none, named_stored, named_interval}
use Rattle.tables.specs.Run.{Run}
use Rattle.tables.specs.Table.{entry}
use Rattle.tables.specs.View.{since_store, interval_in, named_from, named_in}
use Rattle.tables.proofs.SinceStore.{named_dropped}
use Rattle.engine.specs.Tracks.{Tracks}
use Rattle.engine.proofs.ClosingFence.{last_back, back_unfenced}

-- a test that the one before it implies
and_implied : (a b : Bool) → (a ≡ true → b ≡ true) → a && b ≡ a
and_implied true b f = f refl
and_implied false b f = refl

module _ (h : History) (b : ℕ) where
  -- a byte's interval with its events, from entries that say what the history says
  pub named_from_lem : (fenced closed written : ℕ) → since_store (last_store h b) fenced ≡ closing_fence h b →
      (closing_fence h b ≢ 0 → closed ≡ epoch_at h (closing_fence h b)) → since_store (last_store h b) written ≡ first_back h b →
      named_from (last_store h b) fenced (epoch_at h (last_store h b)) closed written ≡ named_of h b
  named_from_lem fenced closed written f c w = go (dec_eq (last_store h b) 0)
    where
      opened : ℕ
      opened = epoch_at h (last_store h b)

      stored : last_store h b ≢ 0 → Dec (fence_after h (line_of b) (last_store h b) ≡ 0) →
          if_some (since_store (last_store h b) fenced) (Open opened (last_store h b) (since_store (last_store h b) written))
          (λ f. Closed opened closed (last_store h b) (since_store (last_store h b) written) f) ≡
          named_of h b
      stored s (yes z) = rw (named_stored h b s, f ∙ closing_stored h b s, z, w, back_stored h b s)
      stored s (no k) =
          let some : closing_fence h b ≢ 0 = rw (closing_stored h b s) k in
          let epoch : closed ≡ epoch_at h (fence_after h (line_of b) (last_store h b)) = rw (closing_stored h b s) at (c some) in
          let named = named_stored h b s ∙ if_some_lem (fence_after h (line_of b) (last_store h b)) _ _ k in
          rw (named, f ∙ closing_stored h b s, w, back_stored h b s, epoch) (if_some_lem (fence_after h (line_of b) (last_store h b)) _ _ k)

      go : Dec (last_store h b ≡ 0) → named_from (last_store h b) fenced opened closed written ≡ named_of h b
      go (yes z) = rw (named_none h b z, z)
      go (no s) = if_some_lem (last_store h b) None _ s ∙ stored s (dec_eq (fence_after h (line_of b) (last_store h b)) 0)

  -- the byte's line was written back since its last store and since the last fence
  abbrev pub backed : Bool
  backed = ltb (last_store h b) (last_back h (line_of b)) && ltb (last (is fences h) (length h)) (last_back h (line_of b))

  -- a fence closes the byte: its interval is open, and its line was written back since both
  abbrev pub closing : Bool
  closing = not (eqb (last_store h b) 0) && eqb (closing_fence h b) 0 && backed

  -- where the interval is open, the write-back since both decides
  pub closing_backed : last_store h b ≢ 0 → closing_fence h b ≡ 0 → closing ≡ backed
  closing_backed s z = rw (ne_eqb (last_store h b) 0 s, eq-eqb (closing_fence h b) 0 z)

  -- and so the one since the last store
  pub closing_open : last_store h b ≢ 0 → closing_fence h b ≡ 0 → closing ≡ ltb (last_store h b) (last_back h (line_of b))
  closing_open s z =
      rw (ne_eqb (last_store h b) 0 s, eq-eqb (closing_fence h b) 0 z)
      (and_implied (ltb (last_store h b) (last_back h (line_of b))) (ltb (last (is fences h) (length h)) (last_back h (line_of b)))
      (λ t. lt-ltb _ _ (back_unfenced h (line_of b) (last_store h b) (sym (closing_stored h b s) ∙ z) (ltb-true _ _ t))))

  -- no fence closes a byte that was never stored to, or one whose interval is closed
  pub closing_never : last_store h b ≡ 0 → closing ≡ false
  closing_never z = rw (eq-eqb (last_store h b) 0 z)

  pub closing_closed : last_store h b ≢ 0 → closing_fence h b ≢ 0 → closing ≡ false
  closing_closed s f = rw (ne_eqb (last_store h b) 0 s, ne_eqb (closing_fence h b) 0 f)

-- so the tables of a run that tracks a history give a byte's interval with its events
pub same_named : {lines : ℕ} {h : History} {run : Run} → Tracks lines h run → (b : ℕ) → named_in run b ≡ named_of h b
same_named {h = h} {run = run} t b =
    rw (t.stored b, t.opened b)
    (named_from_lem h b (entry run.fenced b) (entry run.closed b) (entry run.written b) (t.fenced b) (t.closed b) (t.written b))

-- and its interval
pub same_interval : {lines : ℕ} {h : History} {run : Run} → Tracks lines h run → (b : ℕ) →
    interval_in run.stored run.fenced run.opened run.closed b ≡ interval_of h b
same_interval {h = h} {run = run} t b =
    sym (named_dropped (entry run.stored b) (entry run.fenced b) (entry run.opened b) (entry run.closed b) (entry run.written b)) ∙
    ap without_events (same_named t b) ∙ named_interval h b
