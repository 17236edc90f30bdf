-- The computed warnings meet their claims.
use mathlib.Core.Path.{◌≡◌}
use mathlib.Core.Bool.{Bool, true, false, not, ◌||◌}
use mathlib.Core.Logic.{inl, inr, ⊎_elim}
use mathlib.Core.Option.{Option, none, some}
use Prim.Native.Nat.{ℕ, ◌<◌}
use native.Mathlib.Omega.{arith}
use lib.Dec.{eqb, ltb}
use lib.ListN.{length}
use borrow.Author.Tests.{not-true, eqb-true, eqb-false, ne_eqb, ltb-true, lt-ltb}
use Rattle.event.specs.declared.Range.{Range}
use Rattle.event.specs.declared.Event.{Event}
use Rattle.event.specs.declared.Finding.{Finding}
use Rattle.event.specs.declared.Finding.TheVariants.{None}
use Rattle.window.specs.Window.{line_of}
use Rattle.ranges.specs.Ranges.{line_count}
use Rattle.event.proofs.Bools.{contradiction, fails, fails_not, not_of, and_left, and_right, both, or_cases, or_left, or_right}
use Rattle.ranges.proofs.Meaning.{covered, covering, touched, touched_below, below_touched}
use Rattle.history.specs.Count.{last}
use Rattle.history.specs.History.{History, is, stores_line, writes_back_line, logs_byte}
use Rattle.history.specs.Transaction.{depth, outermost, Since}
use Rattle.history.specs.View.{of_history}
use Rattle.history.specs.Found.{found_or, logged, unlogged, clean, written_twice, warned_line}
use Rattle.history.specs.Warning.{Warned, UnloggedByte, LoggedByte, NeverStored, NotSince, Wasted, WrittenBack}
use Rattle.history.proofs.History.{is_last, is_latest, is_some}
use Rattle.history.proofs.Search.{Least, Decides}
use Rattle.history.proofs.Tests.{not_zero, zero_not}

-- a warning is of the lowest number
pub warned : {P : ℕ → Type 0} {warning : ℕ → Finding} (o : Option ℕ) → Least P o → Warned P warning (found_or o None warning)
warned none (Least.absent f) = Warned.none f
warned (some x) (Least.present l) = Warned.warns l

module _ (lines : ℕ) (h : History) where
  -- the last event that passes is since the outermost begin exactly if some such event is
  pub since_is : (p : Event → Bool) → ltb (outermost h) (last (is p h) (length h)) ≡ true → Since h p
  since_is p e =
      let later = ltb-true (outermost h) (last (is p h) (length h)) e in
      record { number = last (is p h) (length h); later = later; passes = is_last p h (λ z. omega (arith, later, z)) }

  pub is_since : (p : Event → Bool) → Since h p → ltb (outermost h) (last (is p h) (length h)) ≡ true
  is_since p x = lt-ltb (outermost h) _ (omega (arith, x.later, is_latest p h x.number x.passes))

  pub log_decides : (a : Range) → Decides (logged (of_history lines h)) (LoggedByte h a) a.address a.length
  log_decides a =
      record {
        sound = λ b from to e. record { covered = covering a b from to; logged = since_is (logs_byte b) e };
        complete = λ b y. is_since (logs_byte b) y.logged;
        from = λ b y. (covered a b y.covered).from;
        to = λ b y. (covered a b y.covered).to;
      }

  pub store_decides : (a : Range) → Decides (unlogged (of_history lines h)) (UnloggedByte h a) a.address a.length
  store_decides a =
      record {
        sound = λ b from to e.
            record {
              covered = covering a b from to;
              inside = not_zero (depth h) (and_left (not (eqb (depth h) 0)) (not (logged (of_history lines h) b)) e);
              unlogged = λ s. contradiction (is_since (logs_byte b) s) (not-true (logged (of_history lines h) b) (and_right (not (eqb (depth h) 0)) (not (logged (of_history lines h) b)) e));
            };
        complete = λ b y. both (zero_not (depth h) y.inside) (not_of (fails _ (λ e. y.unlogged (since_is (logs_byte b) e))));
        from = λ b y. (covered a b y.covered).from;
        to = λ b y. (covered a b y.covered).to;
      }

  -- a line that was never stored to has no last store
  clean_never : (l : ℕ) → clean (of_history lines h) l ≡ true → NeverStored h l
  clean_never l e s t = is_some (stores_line l) h s t (eqb-true _ _ e)

  never_clean : (l : ℕ) → NeverStored h l → clean (of_history lines h) l ≡ true
  never_clean l f = fails_not _ (λ z. f _ (is_last (stores_line l) h (eqb-false _ 0 z)))

  not_clean : (l : ℕ) → NotSince h l → clean (of_history lines h) l ≡ false
  not_clean l x = ne_eqb _ 0 (is_some (stores_line l) h x.store x.is_store)

  -- a line stored to, but not since its last write-back
  twice_not_since : (l : ℕ) → written_twice (of_history lines h) l ≡ true → NotSince h l
  twice_not_since l e =
      let store = last (is (stores_line l) h) (length h) in
      let back = last (is (writes_back_line l) h) (length h) in
      let less = ltb-true store back (and_right (not (eqb store 0)) (ltb store back) e) in
      record {
        store = store;
        is_store = is_last (stores_line l) h (not_zero store (and_left (not (eqb store 0)) (ltb store back) e));
        back = back;
        is_back = is_last (writes_back_line l) h (λ z. omega (arith, less, z));
        older = λ s t. omega (arith, less, is_latest (stores_line l) h s t);
      }

  not_since_twice : (l : ℕ) → NotSince h l → written_twice (of_history lines h) l ≡ true
  not_since_twice l x =
      let store = last (is (stores_line l) h) (length h) in
      let back = last (is (writes_back_line l) h) (length h) in
      let less : store < back = omega (arith, x.older store (is_last (stores_line l) h (is_some (stores_line l) h x.store x.is_store)), is_latest (writes_back_line l) h x.back x.is_back) in
      both (not_of (not_clean l x)) (lt-ltb store back less)

  pub back_decides : (a : Range) → Decides (λ l. clean (of_history lines h) l || written_twice (of_history lines h) l) (Wasted h a) (line_of a.address) (line_count a)
  back_decides a =
      record {
        sound = λ l from to e.
            record {
              touched = below_touched a l from to;
              fits = ⊎_elim (λ k. inl (clean_never l k)) (λ k. inr (twice_not_since l k)) (or_cases (clean (of_history lines h) l) (written_twice (of_history lines h) l) e);
            };
        complete = λ l y.
            ⊎_elim (λ k. or_left (written_twice (of_history lines h) l) (never_clean l k)) (λ k. or_right (clean (of_history lines h) l) (not_since_twice l k)) y.fits;
        from = λ l y. (touched a l y.touched).from;
        to = λ l y. touched_below a l y.touched;
      }

  pub written_back : (a : Range) (o : Option ℕ) → Least (Wasted h a) o → WrittenBack h a (found_or o None (warned_line (of_history lines h)))
  written_back a none (Least.absent f) = WrittenBack.useful f
  written_back a (some l) (Least.present x) = ⊎_elim never since x.has.fits
    where
      never : NeverStored h l → WrittenBack h a (warned_line (of_history lines h) l)
      never k = rw (never_clean l k) (WrittenBack.clean x k)

      since : NotSince h l → WrittenBack h a (warned_line (of_history lines h) l)
      since k = rw (not_clean l k) (WrittenBack.twice x k)
