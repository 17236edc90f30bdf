-- The tests that a finding is computed by say what crash images say.
use mathlib.Core.Path.{◌≡◌, refl, sym, ◌∙◌}
use mathlib.Core.Bool.{Bool, true, cond, not, ◌&&◌, ◌||◌}
use mathlib.Core.Logic.{◌≢◌, ⊎_elim}
use Prim.Native.Nat.{ℕ}
use native.Mathlib.Decide.{ℕ_discrete as dec_eq}
use lib.Dec.{eqb, leb, ltb}
use lib.ListN.{length}
use borrow.Author.Tests.{not-true, eqb-true, eqb-false, eq-eqb, ne_eqb, leb-true, le-leb, ltb-true, lt-ltb}
use Rattle.window.specs.Window.{line_of, word_of}
use Rattle.event.proofs.Bools.{contradiction, fails, not_of, and_left, and_right, both, or_cases, or_left, or_right}
use Rattle.history.specs.History.{History, fences}
use Rattle.history.specs.Interval.{last_store, closing_fence}
use Rattle.history.specs.View.{of_history}
use Rattle.history.specs.Found.{at_risk, closed_by, breaks}
use Rattle.history.specs.Image.{Forced}
use Rattle.history.proofs.History.{is_number}
use Rattle.history.proofs.Interval.{closing_stored, closing_fence_lem, forced_closes, closes_forced}
use Rattle.history.proofs.Image.{Risk, OneLine, PairRisk}

-- a number that is not 0
pub not_zero : (n : ℕ) → not (eqb n 0) ≡ true → n ≢ 0
not_zero n e z = contradiction (rw (eq-eqb n 0 z) at e) refl

pub zero_not : (n : ℕ) → n ≢ 0 → not (eqb n 0) ≡ true
zero_not n f = rw (ne_eqb n 0 f)

module _ (h : History) where
  -- a byte at risk is one whose last store nothing forces by the list's end
  pub open_risk : (lines b : ℕ) → at_risk (of_history lines h) b ≡ true → Risk h b (length h)
  open_risk lines b e =
      let stored = not_zero (last_store h b) (and_left (not (eqb (last_store h b) 0)) (eqb (closing_fence h b) 0) e) in
      let none = eqb-true (closing_fence h b) 0 (and_right (not (eqb (last_store h b) 0)) (eqb (closing_fence h b) 0) e) in
      record { stored = stored; free = λ f. (forced_closes h f).there (sym (closing_stored h b stored) ∙ none) }

  pub risk_open : (lines b : ℕ) → Risk h b (length h) → at_risk (of_history lines h) b ≡ true
  risk_open lines b x = both (zero_not (last_store h b) x.stored) (go (dec_eq (closing_fence h b) 0))
    where
      go : Dec (closing_fence h b ≡ 0) → eqb (closing_fence h b) 0 ≡ true
      go (yes z) = eq-eqb _ _ z
      go (no z) =
          let there = rw (closing_stored h b x.stored) at z in
          let fence = closing_fence_lem h (line_of b) (last_store h b) there in
          absurd (x.free (closes_forced h (record { there = there; by = (is_number fences h _ fence).within })))

  module _ (lines kept lost : ℕ) (stored : last_store h lost ≢ 0) where
    -- the lost byte's interval is closed by the kept store exactly if its last store is forced by then
    closed_forced : closed_by (of_history lines h) lost (last_store h kept) ≡ true → Forced h (line_of lost) (last_store h lost) (last_store h kept)
    closed_forced e =
        let some = not_zero (closing_fence h lost) (and_left (not (eqb (closing_fence h lost) 0)) (leb (closing_fence h lost) (last_store h kept)) e) in
        let by = leb-true (closing_fence h lost) (last_store h kept) (and_right (not (eqb (closing_fence h lost) 0)) (leb (closing_fence h lost) (last_store h kept)) e) in
        closes_forced h (record { there = rw (closing_stored h lost stored) at some; by = rw (closing_stored h lost stored) at by })

    forced_closed : Forced h (line_of lost) (last_store h lost) (last_store h kept) → closed_by (of_history lines h) lost (last_store h kept) ≡ true
    forced_closed f =
        let x = forced_closes h f in
        rw (closing_stored h lost stored) (both (zero_not _ x.there) (le-leb _ _ x.by))

  abbrev torn_test : ℕ → ℕ → Bool
  torn_test kept lost = eqb (last_store h kept) (last_store h lost) && not (eqb (word_of kept) (word_of lost))

  abbrev one_line_test : ℕ → ℕ → Bool
  one_line_test kept lost = ltb (last_store h kept) (last_store h lost) || torn_test kept lost

  -- the test of two bytes of one line
  one_line : (kept lost : ℕ) → one_line_test kept lost ≡ true → OneLine h kept lost
  one_line kept lost e =
      ⊎_elim
      (λ (k : ltb (last_store h kept) (last_store h lost) ≡ true). OneLine.older (ltb-true _ _ k))
      (λ (k : torn_test kept lost ≡ true).
      OneLine.torn (eqb-true _ _ (and_left (eqb (last_store h kept) (last_store h lost)) (not (eqb (word_of kept) (word_of lost))) k))
      (eqb-false _ _ (not-true _ (and_right (eqb (last_store h kept) (last_store h lost)) (not (eqb (word_of kept) (word_of lost))) k))))
      (or_cases (ltb (last_store h kept) (last_store h lost)) (torn_test kept lost) e)

  line_one : (kept lost : ℕ) → OneLine h kept lost → one_line_test kept lost ≡ true
  line_one kept lost (OneLine.older k) = or_left (torn_test kept lost) (lt-ltb _ _ k)
  line_one kept lost (OneLine.torn same word) = or_right (ltb (last_store h kept) (last_store h lost)) (both (eq-eqb _ _ same) (not_of (ne_eqb _ _ word)))

  abbrev line_test : ℕ → ℕ → ℕ → Bool
  line_test lines kept lost =
      cond (eqb (line_of kept) (line_of lost))
      (one_line_test kept lost)
      (not (closed_by (of_history lines h) lost (last_store h kept)))

  abbrev stored_test : ℕ → Bool
  stored_test b = not (eqb (last_store h b) 0)

  -- the test of a pair says what crash images say
  pub breaks_risk : (lines kept lost : ℕ) → breaks (of_history lines h) kept lost ≡ true → PairRisk h kept lost
  breaks_risk lines kept lost e =
      let both_stored = and_left (stored_test kept && stored_test lost) (line_test lines kept lost) e in
      let line = and_right (stored_test kept && stored_test lost) (line_test lines kept lost) e in
      let lost_stored = not_zero (last_store h lost) (and_right (stored_test kept) (stored_test lost) both_stored) in
      record {
        kept_stored = not_zero (last_store h kept) (and_left (stored_test kept) (stored_test lost) both_stored);
        lost_stored = lost_stored;
        together = λ s. one_line kept lost (rw (eq-eqb (line_of kept) (line_of lost) s) at line);
        apart = λ n f. contradiction (rw (ne_eqb (line_of kept) (line_of lost) n, forced_closed lines kept lost lost_stored f) at line) refl;
      }

  pub risk_breaks : (lines kept lost : ℕ) → PairRisk h kept lost → breaks (of_history lines h) kept lost ≡ true
  risk_breaks lines kept lost x =
      both (both (zero_not (last_store h kept) x.kept_stored) (zero_not (last_store h lost) x.lost_stored))
      (line (dec_eq (line_of kept) (line_of lost)))
    where
      line : Dec (line_of kept ≡ line_of lost) → line_test lines kept lost ≡ true
      line (yes s) = rw (eq-eqb (line_of kept) (line_of lost) s) (line_one kept lost (x.together s))
      line (no n) = rw (ne_eqb (line_of kept) (line_of lost) n) (not_of (fails _ (λ c. x.apart n (closed_forced lines kept lost x.lost_stored c))))
