-- The computed finding of an event meets its claim.
use mathlib.Core.Path.{◌≡◌, refl, sym, subst, subst₂, ◌∙◌}
use mathlib.Core.Bool.{Bool, true, false, cond, ◌&&◌}
use mathlib.Core.List.{◌∷◌}
use mathlib.Core.Option.{Option, none, some}
use Prim.Native.Nat.{ℕ, suc, ◌<◌}
use native.Mathlib.Omega.{arith}
use native.Mathlib.Nat.{le_refl}
use lib.Dec.{eqb, ltb}
use lib.ListN.{length}
use borrow.Author.Tests.{eqb-true, eqb-false}
use Rattle.event.specs.declared.Range.{Range}
use Rattle.event.specs.declared.Event.{Event}
use Rattle.event.specs.declared.Event.TheVariants.{Store, WriteBack, Fence, Begin, Log, End, Persisted, Ordered}
use Rattle.event.specs.declared.Record.{Record}
use Rattle.event.specs.declared.Finding.{Finding}
use Rattle.event.specs.declared.Finding.TheVariants.{None, Lost, OutOfOrder, Empty}
use Rattle.window.specs.Window.{window_bytes, line_of}
use Rattle.ranges.specs.Ranges.{line_count, covers}
use Rattle.event.proofs.Bools.{contradiction, and_left, and_right, both}
use Rattle.ranges.proofs.Meaning.{covered, covering}
use Rattle.history.specs.Count.{last}
use Rattle.history.specs.History.{History, is, stores_byte, stores_some}
use Rattle.history.specs.Interval.{last_store}
use Rattle.history.specs.Transaction.{depth, outermost, Since}
use Rattle.history.specs.View.{of_history}
use Rattle.history.specs.Broken.{PersistedBroken, no_word, meant}
use Rattle.history.specs.Found.{lowest, at_risk, durable, breaks, in_order, outermost_end, finding_by, Pair}
use Rattle.history.specs.Assertion.{Shown, BrokenByte, Persists, BrokenPair, Orders}
use Rattle.history.specs.Claim.{Ended, ClaimOf, Claim}
use Rattle.history.proofs.Search.{Least, Decides, least, LeastPair, least_pair}
use Rattle.history.proofs.Image.{risk_allowed, risk_loses, risk_broken, broken_risk, PairRisk, pair_allowed, pair_lost, pair_kept, pair_broken, broken_pair_lem}
use Rattle.history.proofs.Tests.{open_risk, risk_open, breaks_risk, risk_breaks}
use Rattle.history.proofs.NoEffect.{NoEffect, last_store_unchanged, closing_unchanged}
use Rattle.history.proofs.Warning.{warned, since_is, is_since, store_decides, log_decides, back_decides, written_back}

-- every store that was accepted lies in the window
abbrev pub Inside : ℕ → History → Type 0
Inside lines h = (s b : ℕ) → is (stores_byte b) h s ≡ true → b < window_bytes lines

no_effect_by : {d e : Event} → d ≡ e → NoEffect e → NoEffect d
no_effect_by k q = subst (λ (x : Event). NoEffect x) (sym k) q

-- an assertion, or an end, that follows h
module _ (lines : ℕ) (h : History) (r : Record) (q : NoEffect r.event) where
  abbrev now : History
  now = r ∷ h

  abbrev n : ℕ
  n = suc (length h)

  risk_now : (b : ℕ) → at_risk (of_history lines now) b ≡ at_risk (of_history lines h) b
  risk_now b = simp (last_store_unchanged r h q, closing_unchanged r h q)

  -- a byte is broken exactly if its interval is open
  open_broken : (b : ℕ) → at_risk (of_history lines h) b ≡ true → PersistedBroken now n b
  open_broken b e = risk_broken now b n (le_refl n) (open_risk now lines b (risk_now b ∙ e))

  broken_open : (b : ℕ) → PersistedBroken now n b → at_risk (of_history lines h) b ≡ true
  broken_open b x = sym (risk_now b) ∙ risk_open now lines b (broken_risk now b n x)

  -- the image meant shows the loss
  shown : (b : ℕ) → PersistedBroken now n b → Shown now (meant now n b) n b
  shown b x =
      let risk = broken_risk now b n x in
      record { allowed = risk_allowed now no_word n b risk (le_refl n); moment = refl; loses = risk_loses now no_word n b risk refl }

  durable_meets : (B : ℕ → Type 0) (o : Option ℕ) → Least (BrokenByte now n B) o → Persists now n B (durable (of_history lines h) o)
  durable_meets B none (Least.absent f) = Persists.holds f
  durable_meets B (some b) (Least.present x) =
      subst (λ (s : ℕ). Persists now n B (Lost b n s)) (last_store_unchanged r h q b)
      (Persists.lost x (shown b x.has.broken))

  persisted_decides : (a : Range) → Decides (at_risk (of_history lines h)) (BrokenByte now n (λ b. covers a b ≡ true)) a.address a.length
  persisted_decides a =
      record {
        sound = λ b from to e. record { judged = covering a b from to; broken = open_broken b e };
        complete = λ b y. broken_open b y.broken;
        from = λ b y. (covered a b y.judged).from;
        to = λ b y. (covered a b y.judged).to;
      }

  breaks_now : (kept lost : ℕ) → breaks (of_history lines now) kept lost ≡ breaks (of_history lines h) kept lost
  breaks_now kept lost = simp (last_store_unchanged r h q, closing_unchanged r h q)

  ordered_decides : (a b : Range) (kept : ℕ) → covers b kept ≡ true → Decides (breaks (of_history lines h) kept) (BrokenPair now n a b kept) a.address a.length
  ordered_decides a b kept c =
      record {
        sound = λ lost from to e. record { in_b = c; in_a = covering a lost from to; broken = pair_broken now n (le_refl n) (breaks_risk now lines kept lost (breaks_now kept lost ∙ e)) };
        complete = λ lost y. sym (breaks_now kept lost) ∙ risk_breaks now lines kept lost (broken_pair_lem now y.broken);
        from = λ lost y. (covered a lost y.in_a).from;
        to = λ lost y. (covered a lost y.in_a).to;
      }

  in_order_lem : (a b : Range) (o : Option Pair) → LeastPair (BrokenPair now n a b) o → Orders now n a b (in_order (of_history lines h) o)
  in_order_lem a b none (LeastPair.absent f) = Orders.holds f
  in_order_lem a b (some p) (LeastPair.present {kept = kept} {lost = lost} x y) =
      let risk : PairRisk now kept lost = broken_pair_lem now y.has.broken in
      subst₂ (λ (s t : ℕ). Orders now n a b (OutOfOrder lost kept s t)) (last_store_unchanged r h q kept) (last_store_unchanged r h q lost)
      (Orders.out_of_order x y (record { allowed = pair_allowed now risk; moment = refl; loses = pair_lost now risk }) (pair_kept now risk))

  ended_decides : Inside lines h → Decides (λ b. (of_history lines h).stored_since b && at_risk (of_history lines h) b) (BrokenByte now n (λ b. Since h (stores_byte b))) 0 (window_bytes lines)
  unfolding last_store
  ended_decides inside =
      record {
        sound = λ b from to e.
            record {
              judged = since_is lines h (stores_byte b) (and_left ((of_history lines h).stored_since b) (at_risk (of_history lines h) b) e);
              broken = open_broken b (and_right ((of_history lines h).stored_since b) (at_risk (of_history lines h) b) e);
            };
        complete = λ b y. both (is_since lines h (stores_byte b) y.judged) (broken_open b y.broken);
        from = λ b y. omega arith;
        to = λ b y. omega (arith, inside y.judged.number b y.judged.passes);
      }

  ended_meets : Inside lines h → Ended h now n (cond (eqb (depth h) 1) (outermost_end (of_history lines h)) None)
  ended_meets inside = go (eqb (depth h) 1) refl (ltb (outermost h) (last (is stores_some h) (length h))) refl
    where
      judged : Finding
      judged = durable (of_history lines h) (lowest (λ b. (of_history lines h).stored_since b && at_risk (of_history lines h) b) 0 (window_bytes lines))

      go : (b : Bool) → eqb (depth h) 1 ≡ b → (c : Bool) → ltb (outermost h) (last (is stores_some h) (length h)) ≡ c → Ended h now n (cond b (cond c judged Empty) None)
      go true e true s = Ended.outermost (eqb-true (depth h) 1 e) (since_is lines h stores_some s) (durable_meets (λ b. Since h (stores_byte b)) _ (least _ _ 0 (window_bytes lines) (ended_decides inside)))
      go true e false s = Ended.empty (eqb-true (depth h) 1 e) (λ x. contradiction (is_since lines h stores_some x) s)
      go false e c s = Ended.inner (eqb-false (depth h) 1 e)

-- the finding of each kind of event
meets : (lines : ℕ) (h : History) → Inside lines h → (r : Record) (e : Event) → r.event ≡ e → ClaimOf h (r ∷ h) (suc (length h)) e (finding_by (of_history lines h) e)
unfolding finding_by
meets lines h inside r (Store a) k = warned _ (least _ _ a.address a.length (store_decides lines h a))
meets lines h inside r (WriteBack a) k = written_back lines h a _ (least _ _ (line_of a.address) (line_count a) (back_decides lines h a))
meets lines h inside r Fence k = refl
meets lines h inside r Begin k = refl
meets lines h inside r (Log a) k = warned _ (least _ _ a.address a.length (log_decides lines h a))
meets lines h inside r End k = ended_meets lines h r (no_effect_by k (record { no_store = λ b. refl; no_back = λ l. refl; no_fence = refl })) inside
meets lines h inside r (Persisted a) k =
    let q = no_effect_by k (record { no_store = λ b. refl; no_back = λ l. refl; no_fence = refl }) in
    durable_meets lines h r q (λ b. covers a b ≡ true) _ (least _ _ a.address a.length (persisted_decides lines h r q a))
meets lines h inside r (Ordered a b) k =
    let q = no_effect_by k (record { no_store = λ b. refl; no_back = λ l. refl; no_fence = refl }) in
    in_order_lem lines h r q a b _
    (least_pair (breaks (of_history lines h)) a (BrokenPair (r ∷ h) (suc (length h)) a b) b.address b.length
    (λ kept from to. least _ _ a.address a.length (ordered_decides lines h r q a b kept (covering b kept from to)))
    (λ kept lost y. (covered b kept y.in_b).from)
    (λ kept lost y. (covered b kept y.in_b).to))

-- the computed finding of an event after a history meets its claim
pub finding_claim : (lines : ℕ) (h : History) → Inside lines h → (r : Record) → Claim h r (finding_by (of_history lines h) r.event)
finding_claim lines h inside r = meets lines h inside r r.event refl
