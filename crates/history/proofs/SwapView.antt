-- What a judge asks after two neighbours changed places, and a byte's interval then.
use mathlib.Core.Path.{◌≡◌, refl, sym, ap, ap₂, ◌∙◌}
use mathlib.Core.Bool.{Bool, true, cond, not, ◌&&◌, ◌||◌}
use mathlib.Core.Logic.{◌≢◌}
use Prim.Native.Nat.{ℕ, suc}
use native.Mathlib.Omega.{arith}
use native.Mathlib.Decide.{ℕ_discrete as dec_eq}
use lib.Dec.{eqb, leb, ltb}
use lib.ListN.{length}
use borrow.Author.Tests.{ne_eqb}
use Rattle.event.specs.declared.Event.{Event}
use Rattle.event.specs.declared.Record.{Record}
use Rattle.event.specs.declared.NamedInterval.TheVariants.{Open, Closed}
use Rattle.window.specs.Window.{line_of, word_of}
use Rattle.event.proofs.Bools.{contradiction, fails, and_right}
use Rattle.history.specs.Count.{count, last, first, if_some}
use Rattle.history.specs.History.{History, is, stores, writes_back, fences, touches_line, stores_byte, stores_line, writes_back_line}
use Rattle.history.specs.Interval.{epoch_at, last_store, back_after, fence_after, closing_fence, named_of}
use Rattle.history.specs.View.{of_history}
use Rattle.history.specs.Found.{clean, written_twice, breaks}
use Rattle.history.specs.Swap.{MaySwap, exchanged, renamed_interval}
use Rattle.history.proofs.History.{is_last}
use Rattle.history.proofs.Count.{first_is_lem}
use Rattle.history.proofs.Window.{stores_line_lem}
use Rattle.history.proofs.Interval.{if_some_lem, last_store_on_line, closing_stored, closing_unstored, closing_fence_lem, named_none, named_opens, named_closes}
use Rattle.history.proofs.Exchange.{Place, place, twice, same_eq, same_less, same_leb, zero_stays, zero_same}
use Rattle.history.proofs.Swap.{Quiet, quiet, Swapped, same_length, is_lower, is_upper, last_moved, first_moved, is_same, passing_stays}

-- what passes the test touches the line
record OnLine (l : ℕ) (p : Event → Bool) : Type 0 where
  touches : (e : Event) → p e ≡ true → touches_line l e ≡ true

store_on_line : (l : ℕ) → OnLine l (stores_line l)
store_on_line l = record { touches = λ e t. and_right (stores e) (touches_line l e) t }

back_on_line : (l : ℕ) → OnLine l (writes_back_line l)
back_on_line l = record { touches = λ e t. and_right (writes_back e) (touches_line l e) t }

byte_on_line : (byte : ℕ) → OnLine (line_of byte) (stores_byte byte)
byte_on_line byte = record { touches = λ e t. (store_on_line (line_of byte)).touches e (stores_line_lem byte e t) }

-- what goes by an event that changed its number
if_moved : (i : ℕ) {A : Type 0} (z : A) (f g : ℕ → A) (n : ℕ) → (n ≢ 0 → f (exchanged (suc i) n) ≡ g n) → if_some (exchanged (suc i) n) z f ≡ if_some n z g
if_moved i z f g n e = go (dec_eq n 0)
  where
    go : Dec (n ≡ 0) → if_some (exchanged (suc i) n) z f ≡ if_some n z g
    go (yes y) = rw (y, zero_stays i)
    go (no k) =
        if_some_lem (exchanged (suc i) n) z f (λ y. k (sym (twice (suc i) n) ∙ ap (exchanged (suc i)) y ∙ zero_stays i)) ∙ e k ∙ sym (if_some_lem n z g k)

module _ (a b : Record) (older : History) (m : MaySwap a.event b.event) {h k : History} (s : Swapped a b older h k) where
  abbrev i : ℕ
  i = suc (length older)

  abbrev ex : ℕ → ℕ
  ex = exchanged (suc (length older))

  qa : Quiet a.event
  qa = quiet a.event m.first

  qb : Quiet b.event
  qb = quiet b.event m.second

  -- not both touch a line: one that passes a test on it is not the first neighbour while one that passes another is the second
  not_both : {l : ℕ} {p q : Event → Bool} → OnLine l p → OnLine l q → {x y : ℕ} → is p h x ≡ true → is q h y ≡ true → x ≡ i → y ≡ suc i → ⊥
  not_both {l} {p} {q} onP onQ t u e f =
      m.apart l (onP.touches a.event (sym (is_lower a b older p s) ∙ (rw e at t)))
      (onQ.touches b.event (sym (is_upper a b older q s) ∙ (rw f at u)))

  -- the last of a line that passes a test on it is the same event: a byte's last store, the last store to a line, its last write-back
  last_on_line : {l : ℕ} {p : Event → Bool} → OnLine l p → last (is p k) (length k) ≡ ex (last (is p h) (length h))
  last_on_line {l} {p} on = last_moved a b older p s (λ t u. m.apart l (on.touches a.event t) (on.touches b.event u))

  pub store_moved : (byte : ℕ) → last_store k byte ≡ ex (last_store h byte)
  unfolding last_store
  store_moved byte = last_on_line (byte_on_line byte)

  -- the first write-back of a line after one of its stores is the same event
  module _ (l n : ℕ) (stored : is (stores_line l) h n ≡ true) where
    back_moved : back_after k l (ex n) ≡ ex (back_after h l n)
    unfolding back_after
    back_moved =
        first_moved a b older (writes_back_line l) s (λ t u. m.apart l ((back_on_line l).touches a.event t) ((back_on_line l).touches b.event u)) n
        (λ e. fails _ (λ t. not_both (store_on_line l) (back_on_line l) stored (is_upper a b older (writes_back_line l) s ∙ t) e refl))
        (λ e. fails _ (λ t. not_both (back_on_line l) (store_on_line l) (is_lower a b older (writes_back_line l) s ∙ t) stored refl e))

    -- and so is the fence after it, which keeps its number
    fence_moved : fence_after k l (ex n) ≡ fence_after h l n
    unfolding fence_after
    fence_moved =
        ap (λ (w : ℕ). if_some w 0 (λ w. first (is fences k) w (length k))) back_moved ∙
        if_moved (length older) 0 _ _ (back_after h l n) (λ e. first_fence (back_after h l n))
      where
        fence_stays : (f : ℕ) → (f ≢ 0 → is fences h f ≡ true) → ex f ≡ f
        fence_stays f t = go (dec_eq f 0)
          where
            go : Dec (f ≡ 0) → ex f ≡ f
            go (yes z) = rw z (zero_stays (length older))
            go (no c) = passing_stays a b older fences s qa.no_fence qb.no_fence f (t c)

        first_fence : (w : ℕ) → first (is fences k) (ex w) (length k) ≡ first (is fences h) w (length h)
        first_fence w =
            first_moved a b older fences s (λ t u. contradiction t qa.no_fence) w (λ e. qb.no_fence) (λ e. qa.no_fence) ∙
            fence_stays (first (is fences h) w (length h)) (λ f. (first_is_lem (is fences h) w (length h) f).passes)

  on_line : (byte : ℕ) → last_store h byte ≢ 0 → is (stores_line (line_of byte)) h (last_store h byte) ≡ true
  on_line byte c = last_store_on_line h byte c

  closing_same : (byte : ℕ) → closing_fence k byte ≡ closing_fence h byte
  unfolding closing_fence
  closing_same byte =
      ap (λ (n : ℕ). if_some n 0 (λ n. fence_after k (line_of byte) n)) (store_moved byte) ∙
      if_moved (length older) 0 _ _ (last_store h byte) (λ c. fence_moved (line_of byte) (last_store h byte) (on_line byte c))

  -- a closing fence is none of the two
  closing_is_fence : (byte : ℕ) → closing_fence h byte ≢ 0 → is fences h (closing_fence h byte) ≡ true
  closing_is_fence byte c =
      let e = closing_stored h byte (λ z. c (closing_unstored h byte z)) in
      rw e (closing_fence_lem h (line_of byte) (last_store h byte) (rw e at c))

  closing_other : (byte : ℕ) → (closing_fence h byte ≢ i) × (closing_fence h byte ≢ suc i)
  closing_other byte = (
    λ e. contradiction (rw e at (closing_is_fence byte (λ z. omega (arith, e, z)))) (is_lower a b older fences s ∙ qa.no_fence),
    λ e. contradiction (rw e at (closing_is_fence byte (λ z. omega (arith, e, z)))) (is_upper a b older fences s ∙ qb.no_fence),
  )

  -- every event has the epoch that it had, and there are as many fences
  epoch_moved : (n : ℕ) → epoch_at k (ex n) ≡ epoch_at h n
  unfolding epoch_at count
  epoch_moved n = ap (λ (p : ℕ → Bool). count p (ex n)) (is_same a b older fences s qa.no_fence qb.no_fence) ∙ go (place i n)
    where
      step : count (is fences h) (suc i) ≡ count (is fences h) i
      step = rw (is_upper a b older fences s, qb.no_fence)

      go : {y : ℕ} → Place i n y → count (is fences h) y ≡ count (is fences h) n
      go (Place.lower e f) = rw (e, f) step
      go (Place.upper e f) = rw (e, f) (sym step)
      go (Place.other c d f) = rw f

  pub fences_same : epoch_at k (length k) ≡ epoch_at h (length h)
  unfolding epoch_at
  fences_same = ap₂ (λ (p : ℕ → Bool) (n : ℕ). count p n) (is_same a b older fences s qa.no_fence qb.no_fence) (same_length a b older s)

  -- so the interval's answer has the same epochs, and names the same events
  pub named_moved : (byte : ℕ) → named_of k byte ≡ renamed_interval ex (named_of h byte)
  named_moved byte = go (dec_eq S 0) (dec_eq C 0)
    where
      S : ℕ
      S = last_store h byte

      C : ℕ
      C = closing_fence h byte

      stored : S ≢ 0 → last_store k byte ≢ 0
      stored c z = c (sym (twice i S) ∙ ap ex (sym (store_moved byte) ∙ z) ∙ zero_stays (length older))

      back : S ≢ 0 → back_after k (line_of byte) (last_store k byte) ≡ ex (back_after h (line_of byte) S)
      back c = ap (back_after k (line_of byte)) (store_moved byte) ∙ back_moved (line_of byte) S (on_line byte c)

      opened : epoch_at k (last_store k byte) ≡ epoch_at h S
      opened = ap (epoch_at k) (store_moved byte) ∙ epoch_moved S

      go : Dec (S ≡ 0) → Dec (C ≡ 0) → named_of k byte ≡ renamed_interval ex (named_of h byte)
      go (yes z) d = named_none k byte (store_moved byte ∙ ap ex z ∙ zero_stays (length older)) ∙ sym (ap (renamed_interval ex) (named_none h byte z))
      go (no c) (yes z) =
          named_opens k byte (stored c) (closing_same byte ∙ z) ∙ (λ j. Open (opened j) (store_moved byte j) (back c j)) ∙
          sym (ap (renamed_interval ex) (named_opens h byte c z))
      go (no c) (no f) =
          let still : ex C ≡ C = passing_stays a b older fences s qa.no_fence qb.no_fence C (closing_is_fence byte f) in
          let fence : closing_fence k byte ≡ ex C = closing_same byte ∙ sym still in
          let closed : epoch_at k (closing_fence k byte) ≡ epoch_at h C = ap (epoch_at k) fence ∙ epoch_moved C in
          named_closes k byte (stored c) (λ z. f (sym (closing_same byte) ∙ z)) ∙
          (λ j. Closed (opened j) (closed j) (store_moved byte j) (back c j) (fence j)) ∙
          sym (ap (renamed_interval ex) (named_closes h byte c f))

  -- the tests that findings go by
  module _ (lines : ℕ) where
    pub risk_same : (byte : ℕ) → (of_history lines k).risk byte ≡ (of_history lines h).risk byte
    risk_same byte = rw (store_moved byte, zero_same (length older) (last_store h byte), closing_same byte)

    pub clean_same : (l : ℕ) → clean (of_history lines k) l ≡ clean (of_history lines h) l
    clean_same l = rw (last_on_line (store_on_line l)) (zero_same (length older) _)

    pub twice_same : (l : ℕ) → written_twice (of_history lines k) l ≡ written_twice (of_history lines h) l
    twice_same l =
        ap₂ (λ (c d : Bool). not c && d) (clean_same l)
        (ap₂ ltb (last_on_line (store_on_line l)) (last_on_line (back_on_line l)) ∙
        same_less i _ _
        (λ e f. not_both (store_on_line l) (back_on_line l) (is_last (stores_line l) h (λ z. omega (arith, e, z))) (is_last (writes_back_line l) h (λ z. omega (arith, f, z))) e f)
        (λ e f. not_both (back_on_line l) (store_on_line l) (is_last (writes_back_line l) h (λ z. omega (arith, e, z))) (is_last (stores_line l) h (λ z. omega (arith, f, z))) e f))

    -- a pair: on two lines the lost byte's closing fence is none of the two, and on one line not both stores are; the words of one store
    -- that set both bytes are as they were
    pub breaks_same : (kept lost : ℕ) → breaks (of_history lines k) kept lost ≡ breaks (of_history lines h) kept lost
    breaks_same kept lost =
        rw (
          store_moved kept,
          store_moved lost,
          zero_same (length older) (last_store h kept),
          zero_same (length older) (last_store h lost),
          closing_same lost,
          same_eq i (last_store h kept) (last_store h lost),
          same_leb i (closing_fence h lost) (last_store h kept) (closing_other lost).0 (closing_other lost).1,
        )
        (go (dec_eq (line_of kept) (line_of lost)))
      where
        line_test : Bool → Bool
        line_test older =
            not (eqb (last_store h kept) 0) && not (eqb (last_store h lost) 0) &&
            cond (eqb (line_of kept) (line_of lost))
            (older || eqb (last_store h kept) (last_store h lost) && not (eqb (word_of kept) (word_of lost)))
            (not (not (eqb (closing_fence h lost) 0) && leb (closing_fence h lost) (last_store h kept)))

        stores_apart : (c d : ℕ) → line_of c ≡ line_of d → last_store h c ≡ i → last_store h d ≡ suc i → ⊥
        stores_apart c d e f g =
            not_both (store_on_line (line_of c)) (store_on_line (line_of c)) (on_line c (λ z. omega (arith, f, z))) (rw (← e) at (on_line d (λ z. omega (arith, g, z)))) f g

        go : Dec (line_of kept ≡ line_of lost) → line_test (ltb (ex (last_store h kept)) (ex (last_store h lost))) ≡ line_test (ltb (last_store h kept) (last_store h lost))
        go (yes e) = ap line_test (same_less i (last_store h kept) (last_store h lost) (stores_apart kept lost e) (stores_apart lost kept (sym e)))
        go (no d) = rw (ne_eqb (line_of kept) (line_of lost) d)
