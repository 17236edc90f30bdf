-- Findings and refusals after two neighbours changed places.
use Rattle.std.specs.Prelude.{Ok, Err}
use mathlib.Core.Path.{◌≡◌, refl, sym, ap, ap₂, ◌∙◌, fun_ext}
use mathlib.Core.Bool.{Bool, true, false, cond, not, ◌&&◌, ◌||◌}
use mathlib.Core.List.{◌∷◌}
use mathlib.Core.Option.{Option, none, some}
use Prim.Native.Nat.{ℕ, zero, suc, ◌+◌, ◌≤◌, ◌<◌}
use native.Mathlib.Omega.{arith}
use lib.Dec.{eqb}
use lib.ListN.{length}
use Rattle.event.specs.declared.Event.{Event}
use Rattle.event.specs.declared.Event.TheVariants.{Store, WriteBack, Fence, Begin, Log, End, Persisted, Ordered}
use Rattle.event.specs.declared.Record.{Record}
use Rattle.event.specs.declared.Finding.{Finding}
use Rattle.event.specs.declared.Finding.TheVariants.{None, Unlogged, Clean, WrittenTwice, LoggedTwice, Empty}
use Rattle.event.specs.Answers.{Check}
use Rattle.window.specs.Window.{window_bytes, line_of, line_start}
use Rattle.ranges.specs.Ranges.{line_count, touches}
use Rattle.event.proofs.Bools.{contradiction, fails, and_right, or_left}
use Rattle.ranges.proofs.Meaning.{below_touched}
use Rattle.history.specs.History.{History, stores, writes_back, touches_line, stores_some, stores_byte, stores_line, writes_back_line, logs_byte}
use Rattle.history.specs.Interval.{last_store}
use Rattle.history.specs.Transaction.{depth, outermost}
use Rattle.history.specs.View.{View, of_history}
use Rattle.history.specs.Refused.{limits_by, refusal_by, first_broken}
use Rattle.history.specs.Found.{lowest, lowest_in, lowest_pair, found_or, since, logged, unlogged, clean, written_twice, warned_line, at_risk, durable, breaks, in_order, outermost_end, finding_by, Pair}
use Rattle.history.specs.Given.{answer_for, answer_of}
use Rattle.history.specs.Swap.{MaySwap, exchanged, renamed, renamed_answer}
use Rattle.history.proofs.NoEffect.{is_last_unchanged}
use Rattle.history.proofs.Exchange.{stays}
use Rattle.history.proofs.Swap.{Quiet, Swapped, same_length, both_within}
use Rattle.history.proofs.SwapSince.{depth_same, since_same}
use Rattle.history.proofs.SwapView.{store_moved, risk_same, clean_same, twice_same, breaks_same}

-- limits go by the window's lines, the events taken and the transactions open alone
pub limits_same : (lines : ℕ) (h k : History) → length k ≡ length h → depth k ≡ depth h → (e : Event) →
    limits_by (of_history lines k) e ≡ limits_by (of_history lines h) e
limits_same lines h k p q e = rw (p, q)

-- a warning names no event
warned_same : (x : ℕ → ℕ) (o : Option ℕ) (w : ℕ → Finding) → ((n : ℕ) → renamed x (w n) ≡ w n) → found_or o None w ≡ renamed x (found_or o None w)
warned_same x none w e = refl
warned_same x (some n) w e = sym (e n)

line_warned : (x : ℕ → ℕ) (v : View) (l : ℕ) → renamed x (warned_line v l) ≡ warned_line v l
line_warned x v l = go (clean v l)
  where
    go : (c : Bool) → renamed x (cond c (Clean (line_start l)) (WrittenTwice (line_start l))) ≡ cond c (Clean (line_start l)) (WrittenTwice (line_start l))
    go true = refl
    go false = refl

module _ (a b : Record) (older : History) (m : MaySwap a.event b.event) {h k : History} (s : Swapped a b older h k) (lines : ℕ) where
  abbrev ex : ℕ → ℕ
  ex = exchanged (suc (length older))

  abbrev before : View
  before = of_history lines h

  abbrev after_it : View
  after_it = of_history lines k

  next_stays : ex (suc (length h)) ≡ suc (length h)
  next_stays = stays (suc (length older)) (λ e. omega (arith, both_within a b older s, e)) (λ e. omega (arith, both_within a b older s, e))

  -- the tests that findings go by are the same
  logged_same : logged after_it ≡ logged before
  logged_same = fun_ext (λ byte. since_same a b older m s (logs_byte byte))

  unlogged_same : unlogged after_it ≡ unlogged before
  unlogged_same = fun_ext (λ byte. ap₂ (λ (d : ℕ) (c : Bool). not (eqb d 0) && not c) (depth_same a b older m s) (since_same a b older m s (logs_byte byte)))

  wasted_same : ◌≡◌ {A = ℕ → Bool} (λ l. clean after_it l || written_twice after_it l) (λ l. clean before l || written_twice before l)
  wasted_same = fun_ext (λ l. ap₂ (λ (c d : Bool). c || d) (clean_same a b older m s lines l) (twice_same a b older m s lines l))

  warned_line_same : warned_line after_it ≡ warned_line before
  warned_line_same = fun_ext (λ l. ap (λ (c : Bool). cond c (Clean (line_start l)) (WrittenTwice (line_start l))) (clean_same a b older m s lines l))

  risky_same : at_risk after_it ≡ at_risk before
  risky_same = fun_ext (λ byte. risk_same a b older m s lines byte)

  ended_same : ◌≡◌ {A = ℕ → Bool} (λ byte. after_it.stored_since byte && at_risk after_it byte) (λ byte. before.stored_since byte && at_risk before byte)
  unfolding last_store
  ended_same = fun_ext (λ byte. ap₂ (λ (c d : Bool). c && d) (since_same a b older m s (stores_byte byte)) (risk_same a b older m s lines byte))

  broken_same : breaks after_it ≡ breaks before
  broken_same = fun_ext (λ kept. fun_ext (λ lost. breaks_same a b older m s lines kept lost))

  -- so what they find is the same, and the stores named are renamed
  durable_moved : (o : Option ℕ) → durable after_it o ≡ renamed ex (durable before o)
  durable_moved none = refl
  durable_moved (some byte) = rw (same_length a b older s, next_stays, store_moved a b older m s byte)

  in_order_moved : (o : Option Pair) → in_order after_it o ≡ renamed ex (in_order before o)
  in_order_moved none = refl
  in_order_moved (some p) = rw (store_moved a b older m s p.kept, store_moved a b older m s p.lost)

  ended_moved : outermost_end after_it ≡ renamed ex (outermost_end before)
  ended_moved = rw (since_same a b older m s stores_some, ended_same) (go (since before before.latest_store))
    where
      o : Option ℕ
      o = lowest (λ byte. before.stored_since byte && at_risk before byte) 0 (window_bytes lines)

      go : (c : Bool) → cond c (durable after_it o) Empty ≡ renamed ex (cond c (durable before o) Empty)
      go true = durable_moved o
      go false = refl

  -- the finding of every later event: only the two numbers are exchanged
  finding_moved : (e : Event) → finding_by (of_history lines k) e ≡ renamed ex (finding_by (of_history lines h) e)
  unfolding finding_by
  finding_moved (Store c) =
      ap (λ (p : ℕ → Bool). found_or (lowest_in p c) None Unlogged) unlogged_same ∙ warned_same ex (lowest_in (unlogged before) c) Unlogged (λ n. refl)
  finding_moved (WriteBack c) =
      ap₂ (λ (p : ℕ → Bool) (w : ℕ → Finding). found_or (lowest p (line_of c.address) (line_count c)) None w) wasted_same warned_line_same ∙
      warned_same ex (lowest (λ l. clean before l || written_twice before l) (line_of c.address) (line_count c)) (warned_line before) (line_warned ex before)
  finding_moved Fence = refl
  finding_moved Begin = refl
  finding_moved (Log c) =
      ap (λ (p : ℕ → Bool). found_or (lowest_in p c) None LoggedTwice) logged_same ∙ warned_same ex (lowest_in (logged before) c) LoggedTwice (λ n. refl)
  finding_moved End = rw (depth_same a b older m s) (go (eqb (depth h) 1))
    where
      go : (c : Bool) → cond c (outermost_end after_it) None ≡ renamed ex (cond c (outermost_end before) None)
      go true = ended_moved
      go false = refl
  finding_moved (Persisted c) = ap (λ (p : ℕ → Bool). durable after_it (lowest_in p c)) risky_same ∙ durable_moved (lowest_in (at_risk before) c)
  finding_moved (Ordered c d) =
      ap (λ (p : ℕ → ℕ → Bool). in_order after_it (lowest_pair p c d.address d.length)) broken_same ∙
      in_order_moved (lowest_pair (breaks before) c d.address d.length)

  -- and no later event is refused, or taken, that was not
  pub refusal_same : (e : Event) → refusal_by (of_history lines k) e ≡ refusal_by (of_history lines h) e
  unfolding refusal_by
  refusal_same e = ap first_broken (limits_same lines h k (same_length a b older s) (depth_same a b older m s) e)

  pub answer_moved : (r : Record) → answer_of lines k r ≡ renamed_answer ex (answer_of lines h r)
  unfolding answer_of
  answer_moved r = ap₂ answer_for (refusal_same r.event) (finding_moved r.event) ∙ go (refusal_by before r.event) (finding_by before r.event)
    where
      go : (c : Check) (f : Finding) → answer_for c (renamed ex f) ≡ renamed_answer ex (answer_for c f)
      go (Ok _) f = refl
      go (Err x) f = refl

-- a search by two tests that agree on what it looks at
found_same : (p q : ℕ → Bool) (f g : ℕ → Finding) (x n : ℕ) → ((z : ℕ) → x ≤ z → z < x + n → (p z ≡ q z) × (f z ≡ g z)) → found_or (lowest p x n) None f ≡ found_or (lowest q x n) None g
unfolding lowest
found_same p q f g x zero e = refl
found_same p q f g x (suc n) e = rw (e x (omega arith) (omega arith)).0 (go (q x) (found_same p q f g (suc x) n (λ z k j. e z (omega arith) (omega arith))))
  where
    go : (c : Bool) → found_or (lowest p (suc x) n) None f ≡ found_or (lowest q (suc x) n) None g →
        found_or (cond c (some x) (lowest p (suc x) n)) None f ≡ found_or (cond c (some x) (lowest q (suc x) n)) None g
    go true rest = (e x (omega arith) (omega arith)).1
    go false rest = rest

-- the two events' own findings: what a store or a write-back gets does not go by one that touches none of its lines
module _ (lines : ℕ) (h : History) (r : Record) (q : Quiet r.event) where
  pub quiet_depth : depth (r ∷ h) ≡ depth h
  unfolding depth
  quiet_depth = rw (q.no_begin, q.no_end)

  quiet_begin : outermost (r ∷ h) ≡ outermost h
  unfolding outermost
  quiet_begin = rw q.no_begin

  pub own_finding : (e : Event) → stores e || writes_back e ≡ true → ((l : ℕ) → touches_line l e ≡ true → touches_line l r.event ≡ true → ⊥) →
      finding_by (of_history lines (r ∷ h)) e ≡ finding_by (of_history lines h) e
  unfolding finding_by
  own_finding (Store c) t apart = ap (λ (p : ℕ → Bool). found_or (lowest_in p c) None Unlogged) (fun_ext same)
    where
      same : (byte : ℕ) → unlogged (of_history lines (r ∷ h)) byte ≡ unlogged (of_history lines h) byte
      same byte = rw (quiet_depth, quiet_begin, is_last_unchanged (logs_byte byte) r h (rw q.no_log))
  own_finding (WriteBack c) t apart = found_same _ _ _ _ (line_of c.address) (line_count c) (λ l from to. same l (below_touched c l from to))
    where
      same : (l : ℕ) → touches c l ≡ true →
          ((clean (of_history lines (r ∷ h)) l || written_twice (of_history lines (r ∷ h)) l) ≡ (clean (of_history lines h) l || written_twice (of_history lines h) l)) ×
          (warned_line (of_history lines (r ∷ h)) l ≡ warned_line (of_history lines h) l)
      same l u =
          let gone : touches_line l r.event ≡ false = fails _ (λ v. apart l (or_left false u) v) in
          let store = is_last_unchanged (stores_line l) r h (fails _ (λ v. contradiction (and_right (stores r.event) (touches_line l r.event) v) gone)) in
          let back = is_last_unchanged (writes_back_line l) r h (fails _ (λ v. contradiction (and_right (writes_back r.event) (touches_line l r.event) v) gone)) in
          (rw (store, back), rw store)
  own_finding Fence t apart = refl
  own_finding Begin t apart = refl
  own_finding (Log c) t apart = absurd (contradiction t refl)
  own_finding End t apart = absurd (contradiction t refl)
  own_finding (Persisted c) t apart = absurd (contradiction t refl)
  own_finding (Ordered c d) t apart = absurd (contradiction t refl)

-- it names no event
pub own_renamed : (x : ℕ → ℕ) (v : View) (e : Event) → stores e || writes_back e ≡ true → renamed x (finding_by v e) ≡ finding_by v e
unfolding finding_by
own_renamed x v (Store c) t = sym (warned_same x (lowest_in (unlogged v) c) Unlogged (λ n. refl))
own_renamed x v (WriteBack c) t =
    sym (warned_same x (lowest (λ l. clean v l || written_twice v l) (line_of c.address) (line_count c)) (warned_line v) (line_warned x v))
own_renamed x v Fence t = refl
own_renamed x v Begin t = refl
own_renamed x v (Log c) t = absurd (contradiction t refl)
own_renamed x v End t = absurd (contradiction t refl)
own_renamed x v (Persisted c) t = absurd (contradiction t refl)
own_renamed x v (Ordered c d) t = absurd (contradiction t refl)
